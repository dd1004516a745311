-- A refused packet for each rule that one can break, with the offset and the size of the item (proofs/ReasonCases shows that each holds).
-- The byte ceiling is a theorem (CeilingReason).
use Rattle.std.specs.Prelude.{◌≡◌, List, [], ◌∷◌, ◌++◌, ℕ, zero, suc}
use Rattle.std.proofs.Math.Option.{Option, some}
use Rattle.format.specs.Messages.{Kind, server_link, client_link, udp_link}
use Rattle.format.specs.Decoding.{Fault, Rule, choice, data_length, depth_ceiling, fault, frame_length, kind, name_ceiling, opening, order, rest, short, status_bit}
use Rattle.format.specs.Cases.{hash, nested}
use Rattle.format.specs.Reasons.{reason_of}

pub record ReasonCase : Type 0 where
  pub link : Kind
  pub bytes : List ℕ
  pub reason : Fault

abbrev refused_for : Kind → List ℕ → (rule : Rule) → (at size : ℕ) → ReasonCase
refused_for link bytes rule at size = record { link = link; bytes = bytes; reason = fault rule at size }

abbrev pub HasReason : ReasonCase → Type 0
HasReason c = reason_of c.link c.bytes ≡ some c.reason

-- A packet on TCP with so many bytes after the header.
abbrev framed : ℕ → List ℕ → List ℕ
framed n bytes = 0xE3 ∷ n ∷ 0x00 ∷ 0x00 ∷ 0x00 ∷ bytes

-- The DWORDs 0 and 1.
abbrev dword0 : List ℕ
dword0 = 0x00 ∷ 0x00 ∷ 0x00 ∷ 0x00 ∷ []

abbrev dword1 : List ℕ
dword1 = 0x01 ∷ 0x00 ∷ 0x00 ∷ 0x00 ∷ []

-- Operators alone, each the left side of the one before.
abbrev operators : ℕ → List ℕ
operators zero = []
operators (suc n) = 0x00 ∷ 0x00 ∷ operators n

abbrev pub reason_cases : List ReasonCase
reason_cases =
    refused_for udp_link [] short 0 1
    ∷ refused_for udp_link (0xC5 ∷ 0xA2 ∷ []) opening 0 1
    ∷ refused_for server_link (framed 2 (0x05 ∷ [])) frame_length 1 4
    ∷ refused_for server_link (framed 0 []) frame_length 1 4
    ∷ refused_for server_link (framed 1 (0x46 ∷ [])) kind 5 1
    ∷ refused_for udp_link (0xE3 ∷ 0x05 ∷ []) kind 1 1
    -- a DWORD; a text's bytes, after its WORD
    ∷ refused_for server_link (framed 3 (0x36 ∷ 0x01 ∷ 0x02 ∷ [])) short 6 4
    ∷ refused_for server_link (framed 5 (0x38 ∷ 0x03 ∷ 0x00 ∷ 0x61 ∷ 0x62 ∷ [])) short 8 3
    -- a name: its bytes after its WORD, its length at the WORD
    ∷ refused_for udp_link (0xE3 ∷ 0x98 ∷ 0x02 ∷ 0x01 ∷ 0x00 ∷ 0x61 ∷ 0x02 ∷ 0x00 ∷ 0x62 ∷ []) short 8 2
    ∷ refused_for udp_link (0xE3 ∷ 0x98 ∷ 0x02 ∷ 0x01 ∷ 0x00 ∷ 0x61 ∷ 0x00 ∷ 0x01 ∷ 0x62 ∷ []) name_ceiling 6 2
    ∷ refused_for udp_link (0xE3 ∷ 0x98 ∷ 0x02 ∷ 0x01 ∷ 0x00 ∷ 0x61 ∷ 0x00 ∷ 0x00 ∷ []) choice 6 2
    -- a fixed byte, and a choice
    ∷ refused_for client_link (framed 2 (0x01 ∷ 0x11 ∷ [])) choice 6 1
    ∷ refused_for udp_link (0xE3 ∷ 0x98 ∷ 0x00 ∷ 0x03 ∷ []) choice 3 1
    -- nine parts, the tenth bit set
    ∷ refused_for client_link (framed 21 (0x50 ∷ (hash ++ (0x09 ∷ 0x00 ∷ 0xFF ∷ 0x03 ∷ [])))) status_bit 24 2
    -- 46, from 1 to 0; from 0 to 1 with two bytes of data
    ∷ refused_for client_link (framed 25 (0x46 ∷ (hash ++ (dword1 ++ dword0)))) order 22 8
    ∷ refused_for client_link (framed 27 (0x46 ∷ (hash ++ (dword0 ++ (dword1 ++ (0xAA ∷ 0xBB ∷ [])))))) data_length 22 8
    -- 47, the third range
    ∷ refused_for client_link (framed 41 (0x47 ∷ (hash ++ (dword0 ++ (dword0 ++ (dword1 ++ (dword0 ++ (dword1 ++ dword0)))))))) order 22 24
    -- the left side of the 24th operator, and the same where the packet ends there
    ∷ refused_for udp_link (0xE3 ∷ 0x98 ∷ nested 24) depth_ceiling 142 0
    ∷ refused_for udp_link (0xE3 ∷ 0x98 ∷ operators 24) depth_ceiling 50 0
    ∷ refused_for server_link (framed 2 (0x05 ∷ 0x00 ∷ [])) rest 6 1
    ∷ []
