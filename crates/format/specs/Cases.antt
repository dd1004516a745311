-- The cases that document 01 marks P, its limits on depth and names, and its counts of parts and blocks, as one table
-- (proofs/Cases shows that each holds).
use Rattle.std.specs.Prelude.{◌≡◌, true, ◌&&◌, List, [], ◌∷◌, ◌++◌, ℕ, zero, suc, replicate}
use Rattle.format.specs.Messages.{string_type, dword_type, and, join, keyword, Query, plain, extended, two_dwords_body, status_request_body, file_status_body}
use Rattle.format.specs.Messages.{Kind, server_link, client_link, udp_link, lone_query, lone_tags, Message}
use Rattle.format.specs.Gaps.{Gap, gap, lawful, size_limit, inside, Marking, rejected, leaves, marking}
use Rattle.format.specs.Rules.{depth, spec_part_count, spec_block_count}
use Rattle.format.specs.Decoding.{Reply, refused_with, message, reply}
use Rattle.format.specs.MetOrder.{decode}

-- What a case claims: the reply to the bytes of a kind, the depth of the query that the bytes are, how many parts and blocks a file of
-- a size has, or what marking leaves of a gap list.
pub data Claim : Type 0 where
  replies : (k : Kind) → List ℕ → Reply (Message k) → Claim
  has_depth : List ℕ → ℕ → Claim
  has_parts : (size parts blocks : ℕ) → Claim
  marks : (size : ℕ) → List Gap → (start end : ℕ) → Marking → Claim

abbrev depth_in : Reply Query → ℕ
depth_in (refused_with n) = 0
depth_in (message q) = depth q

abbrev pub Holds : Claim → Type 0
Holds (replies k s r) = reply (decode k s) ≡ r
Holds (has_depth s d) = depth_in (reply (decode lone_query s)) ≡ d
Holds (has_parts size parts blocks) = (spec_part_count size ≡ parts) × (spec_block_count size ≡ blocks)
Holds (marks size gaps start end m) = marking (lawful size_limit size gaps && inside size start end) size gaps start end ≡ m

abbrev ab_texts : List ℕ
ab_texts = 0x01 ∷ 0x01 ∷ 0x00 ∷ 0x61 ∷ 0x01 ∷ 0x01 ∷ 0x00 ∷ 0x62 ∷ []

abbrev server_status : List ℕ
server_status = 0x00 ∷ 0x00 ∷ 0x00 ∷ 0x34 ∷ 0x03 ∷ 0x00 ∷ 0x00 ∷ 0x00 ∷ 0x05 ∷ 0x00 ∷ 0x00 ∷ 0x00 ∷ []

abbrev pub hash : List ℕ
hash = 0x31 ∷ 0x32 ∷ 0x33 ∷ 0x34 ∷ 0x35 ∷ 0x36 ∷ 0x37 ∷ 0x38 ∷ 0x39 ∷ 0x3A ∷ 0x3B ∷ 0x3C ∷ 0x3D ∷ 0x3E ∷ 0x3F ∷ 0x40 ∷ []

-- File status of nine parts, with the last byte of its bits left out.
abbrev file_status : List ℕ
file_status = 0xE3 ∷ 0x15 ∷ 0x00 ∷ 0x00 ∷ 0x00 ∷ 0x50 ∷ (hash ++ (0x09 ∷ 0x00 ∷ 0xFF ∷ []))

-- A query of operators, one inside the other, with depth n + 1.
abbrev pub nested : ℕ → List ℕ
nested zero = 0x01 ∷ 0x01 ∷ 0x00 ∷ 0x61 ∷ []
nested (suc n) = 0x00 ∷ 0x00 ∷ 0x01 ∷ 0x01 ∷ 0x00 ∷ 0x61 ∷ nested n

-- A tag list of one DWORD tag with the number 7, whose name has n bytes, n written as the two bytes `low` and `high`.
abbrev name_of : ℕ → List ℕ
name_of n = replicate n 0x61

abbrev named_tag : ℕ → ℕ → ℕ → List ℕ
named_tag n low high = 0x01 ∷ 0x00 ∷ 0x00 ∷ 0x00 ∷ 0x03 ∷ low ∷ high ∷ (name_of n ++ (0x07 ∷ 0x00 ∷ 0x00 ∷ 0x00 ∷ []))

abbrev pub cases : List Claim
cases =
    replies lone_tags (0x00 ∷ 0x00 ∷ 0x00 ∷ 0x00 ∷ []) (message [])
    ∷ replies lone_tags
    (0x01 ∷ 0x00 ∷ 0x00 ∷ 0x00 ∷ 0x02 ∷ 0x01 ∷ 0x00 ∷ 0x01 ∷ 0x03 ∷ 0x00 ∷ 0x61 ∷ 0x62 ∷ 0x63 ∷ [])
    (message (record { name = 0x01 ∷ []; value = (string_type, 0x61 ∷ 0x62 ∷ 0x63 ∷ []) } ∷ []))
    ∷ replies server_link (0xE3 ∷ 0x09 ∷ server_status)
    (message (record { opening = 0xE3; opcode = 0x34; body = (two_dwords_body, (3, 5)) }))
    ∷ replies server_link (0xE3 ∷ 0x08 ∷ server_status) (refused_with 3)
    ∷ replies server_link (0xE3 ∷ 0x00 ∷ 0x00 ∷ 0x00 ∷ 0x00 ∷ []) (refused_with 3)
    ∷ replies udp_link (0xE3 ∷ 0x96 ∷ 0x01 ∷ 0x02 ∷ 0xAA ∷ 0x5A ∷ [])
    (message (record { opening = 0xE3; opcode = 0x96; body = (status_request_body, record { form = extended; number = 0x5AAA0201 }) }))
    ∷ replies udp_link (0xE3 ∷ 0x96 ∷ 0xAA ∷ 0x5A ∷ 0x01 ∷ 0x02 ∷ [])
    (message (record { opening = 0xE3; opcode = 0x96; body = (status_request_body, record { form = plain; number = 0x02015AAA }) }))
    ∷ replies lone_query (0x00 ∷ 0x00 ∷ ab_texts) (message (join and (keyword (0x61 ∷ [])) (keyword (0x62 ∷ []))))
    ∷ has_depth (0x00 ∷ 0x00 ∷ ab_texts) 2
    ∷ replies lone_query (0x00 ∷ 0x03 ∷ ab_texts) (refused_with 5)
    ∷ replies client_link (file_status ++ (0x01 ∷ []))
    (message (record {
      opening = 0xE3;
      opcode = 0x50;
      body = (file_status_body, record { hash = hash; held = true ∷ true ∷ true ∷ true ∷ true ∷ true ∷ true ∷ true ∷ true ∷ [] });
    }))
    ∷ replies client_link (file_status ++ (0x03 ∷ [])) (refused_with 5)
    ∷ marks 100 (gap 0 100 ∷ []) 40 60 (leaves (gap 0 40 ∷ gap 60 100 ∷ []) 80)
    ∷ marks 100 (gap 0 100 ∷ []) 60 60 (rejected 8)
    ∷ has_depth (nested 23) 24
    ∷ replies lone_query (nested 24) (refused_with 6)
    ∷ replies lone_tags (named_tag 255 0xFF 0x00) (message (record { name = name_of 255; value = (dword_type, 7) } ∷ []))
    ∷ replies lone_tags (named_tag 256 0x00 0x01) (refused_with 6)
    ∷ has_parts 0 0 0
    ∷ has_parts 9728000 1 20
    ∷ has_parts 9728001 2 21
    ∷ has_parts 4294967295 442 8831
    ∷ []
