-- A message whose numbers its fields can hold is found again by its numbers, whatever stands after them, and these are the first 16. So
-- no two such messages have the same numbers, and what is read is what is written back.
use Prim.Native.Nat.{ℕ, ◌%◌}
use native.Mathlib.Omega.{arith}
use mathlib.Core.Path.{◌≡◌, refl}
use mathlib.Core.List.{List, ◌∷◌, ◌++◌}
use lib.ListN.{take}
use Rattle.format.specs.Rules.{Byte, Word, Dword}
use Rattle.wire.specs.declared.Items.{Items}
use Rattle.query.specs.declared.Query.{Query}
use Rattle.bodies.specs.declared.Form.{Form}
use Rattle.bodies.specs.declared.Body.{Body}
use Rattle.packets.specs.declared.Packet.{Packet}
use Rattle.met.specs.declared.KnownMet.{KnownMet}
use Rattle.met.specs.declared.ServerMet.{ServerMet}
use Rattle.met.specs.declared.HashBlocks.{HashBlocks}
use Rattle.met.specs.declared.PartMet.{PartMet}
use Rattle.fields.specs.Fields.{filled, body_numbers, items_numbers, query_numbers, spec_packet_numbers, known_numbers, server_numbers, part_numbers}
use Rattle.fields.specs.Given.{spec_body_given, spec_items_at, spec_query_at, spec_packet_given, spec_known_given, spec_server_given, spec_blocks_given, spec_part_given, spec_size_given}
use Rattle.fields.specs.Given.{BodyFits, ItemsFit, PacketFits, KnownFits, ServerFits, BlocksFit, PartFits}

-- The numbers n, and any after them: m is what is given by all of them, and they are the first 16.
pub record Found {M : Type 0} (given : List ℕ → M) (n rest : List ℕ) (m : M) : Type 0 where
  pub again : given (n ++ rest) ≡ m
  pub first : n ≡ take 16 (n ++ rest)

byte_low : (n : ℕ) → Byte n → n % 256 ≡ n
byte_low n h = omega arith

word_low : (n : ℕ) → Word n → n % 65536 ≡ n
word_low n h = omega arith

dword-low : (n : ℕ) → Dword n → n % 4294967296 ≡ n
dword-low n h = omega arith

form-back : (f : Form) (n : ℕ) → Dword n → (o c : ℕ) (rest : List ℕ) → spec_body_given (filled 16 (o ∷ c ∷ body_numbers (Body.StatusRequest (record { form = f; number = n }))) ++ rest) ≡
    Body.StatusRequest (record { form = f; number = n })
unfolding spec_body_given
form-back Form.Plain n h o c rest = rw (dword-low n h) refl
form-back Form.Extended n h o c rest = rw (dword-low n h) refl

body_back : (o c : ℕ) (rest : List ℕ) (b : Body) → BodyFits b → Found spec_body_given (filled 16 (o ∷ c ∷ body_numbers b)) rest b
unfolding spec_body_given
body_back o c rest Body.Nothing h = record { again = refl; first = refl }
body_back o c rest (Body.Query q) h = record { again = refl; first = refl }
body_back o c rest (Body.Hash k) h = record { again = refl; first = refl }
body_back o c rest (Body.Dword n) h = record { again = rw (dword-low n h) refl; first = refl }
body_back o c rest (Body.TwoDwords m n) h = record { again = rw (dword-low m h.0, dword-low n h.1) refl; first = refl }
body_back o c rest (Body.Text t) h = record { again = refl; first = refl }
body_back o c rest (Body.TwoTexts t u) h = record { again = refl; first = refl }
body_back o c rest (Body.Address a) h = record { again = rw (dword-low a.ip h.0, word_low a.port h.1) refl; first = refl }
body_back o c rest (Body.Addresses l) h = record { again = rw (dword-low l.count h) refl; first = refl }
body_back o c rest (Body.HashAddresses k l) h = record { again = rw (dword-low l.count h) refl; first = refl }
body_back o c rest (Body.AddressDword a n) h = record { again = rw (dword-low a.ip h.0.0, word_low a.port h.0.1, dword-low n h.1) refl; first = refl }
body_back o c rest (Body.HashAddressTags k a l) h = record { again = rw (dword-low a.ip h.0.0, word_low a.port h.0.1, dword-low l.count h.1) refl; first = refl }
body_back o c rest (Body.Record r) h = record { again = rw (dword-low r.client h.0, word_low r.port h.1, dword-low r.tags.count h.2) refl; first = refl }
body_back o c rest (Body.Records l) h = record { again = rw (dword-low l.count h) refl; first = refl }
body_back o c rest (Body.RecordsFlag l b) h = record { again = rw (dword-low l.count h.0, byte_low b h.1) refl; first = refl }
body_back o c rest (Body.RecordAddress r a) h = record { again = rw (dword-low r.client h.0.0, word_low r.port h.0.1, dword-low r.tags.count h.0.2, dword-low a.ip h.1.0, word_low a.port h.1.1) refl; first = refl }
body_back o c rest (Body.Hello r a) h = record { again = rw (dword-low r.client h.0.0, word_low r.port h.0.1, dword-low r.tags.count h.0.2, dword-low a.ip h.1.0, word_low a.port h.1.1) refl; first = refl }
body_back o c rest (Body.HashText k t) h = record { again = refl; first = refl }
body_back o c rest (Body.Hashset k l) h = record { again = rw (dword-low l.count h) refl; first = refl }
body_back o c rest (Body.SendingPart p) h = record { again = rw (dword-low p.start h.0, dword-low p.end h.1) refl; first = refl }
body_back o c rest (Body.RequestParts p) h = record { again = rw (dword-low p.starts.first h.0.0, dword-low p.starts.second h.0.1, dword-low p.starts.third h.0.2, dword-low p.ends.first h.1.0, dword-low p.ends.second h.1.1, dword-low p.ends.third h.1.2) refl; first = refl }
body_back o c rest (Body.FileStatus f) h = record { again = refl; first = refl }
body_back o c rest (Body.StatusRequest r) h = record { again = form-back r.form r.number h o c rest; first = refl }
body_back o c rest (Body.Status t) h = record { again = rw (dword-low t.first h.0, dword-low t.second h.1, dword-low t.third h.2) refl; first = refl }
body_back o c rest (Body.ExtendedStatus e) h = record { again = rw (byte_low e.first h.0, byte_low e.second h.1, dword-low e.numbers.first h.2.0, dword-low e.numbers.second h.2.1, dword-low e.numbers.third h.2.2) refl; first = refl }

module _ (rest : List ℕ) where
  pub packet-back : (p : Packet) → PacketFits p → Found spec_packet_given (filled 16 (spec_packet_numbers p)) rest p
  packet-back p h =
      let b = body_back p.opening p.opcode rest p.body h.2 in
      record { again = rw (b.again, byte_low p.opening h.0, byte_low p.opcode h.1) refl; first = b.first }

  pub known-back : (m : KnownMet) → KnownFits m → Found spec_known_given (filled 16 (known_numbers m)) rest m
  known-back m h = record { again = rw (byte_low m.opening h.0, dword-low m.entries.count h.1) refl; first = refl }

  pub server-back : (m : ServerMet) → ServerFits m → Found spec_server_given (filled 16 (server_numbers m)) rest m
  server-back m h = record { again = rw (byte_low m.opening h.0, dword-low m.entries.count h.1) refl; first = refl }

  pub query-back : (q : Query) → Found (λ f. spec_query_at f 0) (filled 16 (query_numbers q)) rest q
  query-back q = record { again = refl; first = refl }

  pub list_back : (l : Items) → ItemsFit l → Found (λ f. spec_items_at f 0) (filled 16 (items_numbers l)) rest l
  list_back l h = record { again = rw (dword-low l.count h) refl; first = refl }

  -- A part.met is found again with its size.
  module _ (size : ℕ) (small : Dword size) where
    abbrev Again : PartMet → Type 0
    Again m = Found {M = PartMet × ℕ} (λ f. (spec_part_given f, spec_size_given f)) (filled 16 (part_numbers m size)) rest (m, size)

    -- by the case of its blocks
    e1-back : (date hash : ℕ) (tags : Items) (k : HashBlocks) → Dword date → Dword tags.count → BlocksFit k →
        Again (PartMet.E1 (record { date = date; hash = hash; tags = tags; blocks = k }))
    unfolding spec_part_given spec_blocks_given
    e1-back date hash tags HashBlocks.Nothing d t h =
        record { again = rw (dword-low size small, dword-low date d, dword-low tags.count t) refl; first = refl }
    e1-back date hash tags (HashBlocks.Parts l) d t h =
        record { again = rw (dword-low size small, dword-low date d, dword-low tags.count t, dword-low l.count h) refl; first = refl }
    e1-back date hash tags (HashBlocks.Blocks k) d t h =
        record { again = rw (dword-low size small, dword-low date d, dword-low tags.count t, dword-low k.count h) refl; first = refl }
    e1-back date hash tags (HashBlocks.Both l k) d t h =
        record { again = rw (dword-low size small, dword-low date d, dword-low tags.count t, dword-low l.count h.0, dword-low k.count h.1) refl; first = refl }

    pub part-back : (m : PartMet) → PartFits m → Again m
    unfolding spec_part_given
    part-back (PartMet.E0 e) h =
        record { again = rw (dword-low size small, dword-low e.date h.0, dword-low e.tags.count h.1, dword-low e.parts.count h.2) refl; first = refl }
    part-back (PartMet.E1 m) h = e1-back m.date m.hash m.tags m.blocks h.0 h.1 h.2
