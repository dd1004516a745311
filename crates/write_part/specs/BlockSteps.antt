-- What the private steps answer: the numbers of a part.met before the room is asked for.
use Rattle.std.specs.Prelude.{ℕ, ◌+◌, ◌*◌, ◌≡◌, Bool, true, false, List, ◌++◌, get_or, length, eqb, leb}
use Rattle.format.specs.Tables.{pick}
use Rattle.format.specs.Messages as messages
use Rattle.format.specs.Layout.{byte, dword, encode_hash_blocks}
use Rattle.format.specs.Rules.{spec_block_count, met_ceiling, spec_part_count}
use Rattle.format.specs.Decoding.{Check, bytes_at, got, number, passes, refused, violates}
use Rattle.format.specs.Order.{decode_tag}
use Rattle.format.specs.PartTagOrder.{spec_check_part_tags}
use Rattle.wire.specs.declared.Fault.{Fault}
use Rattle.wire.specs.WireAnswers.{fault_meaning, hash_at, place_bytes}
use Rattle.met.specs.declared.HashBlocks.{HashBlocks}
use Rattle.met.specs.declared.PartE1.{PartE1}
use Rattle.met.specs.MetAnswers.{blocks_in}
use Rattle.write_items.specs.There.{hash_there, items_there}
use Rattle.write_part.specs.declared.Area.{Area}
use Rattle.write_part.specs.PartWrites.{blocks_there, part_e1_there}
use Rattle.std.specs.Prelude.{Result, Ok, Err}

-- The number that the check of the tags gives.
abbrev pub tags_number : Check (ℕ × List messages.Tag) → ℕ
tags_number (passes p) = 0
tags_number (violates rule) = number rule

-- A part.met E0: 6 for part hashes that their count field cannot hold, the byte ceiling (6), and the tags (9, 8, 6).
unfoldable pub spec_e0_number : (parts : ℕ) → (size : ℕ) → List messages.Tag → ℕ
spec_e0_number parts size tags = pick (leb parts 65535) (pick (leb size met_ceiling) (tags_number (spec_check_part_tags tags)) 6) 6

-- The blocks of a part.met E1 as bytes of the lent source: a mark 01 before each of them, and the closing 00.
abbrev pub area_bytes : List ℕ → Area → List ℕ
area_bytes s Area.Nothing = byte 0
area_bytes s (Area.One p) = byte 1 ++ (place_bytes s p ++ byte 0)
area_bytes s (Area.Two p q) = byte 1 ++ (place_bytes s p ++ (byte 1 ++ (place_bytes s q ++ byte 0)))

abbrev pub spec_area_size : Area → ℕ
spec_area_size Area.Nothing = 1
spec_area_size (Area.One p) = 2 + p.len
spec_area_size (Area.Two p q) = 3 + p.len + q.len

-- The places of an area lie within the source.
abbrev pub AreaLies : List ℕ → Area → Type 0
AreaLies s Area.Nothing = Unit {0}
AreaLies s (Area.One p) = length (place_bytes s p) ≡ p.len
AreaLies s (Area.Two p q) = (length (place_bytes s p) ≡ p.len) × (length (place_bytes s q) ≡ q.len)

-- The blocks are there, and the area has their bytes.
pub record AreaOf (s : List ℕ) (b : HashBlocks) (a : Area) : Type 0 where
  pub next : ℕ
  pub here : got tt next ≡ blocks_there s b
  pub bytes : area_bytes s a ≡ encode_hash_blocks (blocks_in s b)
  pub lies : AreaLies s a

abbrev pub AreaMeaning : List ℕ → HashBlocks → Result Area Fault → Type 0
AreaMeaning s b (Ok a) = AreaOf s b a
AreaMeaning s b (Err f) = refused (fault_meaning f) ≡ blocks_there s b

-- The blocks that a file of this size may have, by their counts.
abbrev pub allowed : ℕ → HashBlocks → Bool
allowed size HashBlocks.Nothing = true
allowed size (HashBlocks.Parts l) = eqb l.count (spec_part_count size)
allowed size (HashBlocks.Blocks k) = false
allowed size (HashBlocks.Both l k) = pick (eqb l.count (spec_part_count size)) (eqb k.count (spec_block_count size)) false

-- What the reader says of the bytes of wrong blocks that open with a mark: the part hashes and the mark after them must be there (1), the
-- mark is 00 or 01 (5); after 01 the block hashes and the closing byte must be there (1), and this is 00 (5); nothing may be left over (7).
-- Bytes that it accepts are those of another file (5).
abbrev pub closed : ℕ → ℕ → ℕ
closed size end = pick (eqb size end) 5 7

unfoldable pub spec_area_number : (parts blocks : ℕ) → List ℕ → ℕ
spec_area_number parts blocks area =
    pick (leb (length area) (1 + 16 * parts)) 1
    (pick (eqb (get_or area (1 + 16 * parts) 0) 0) (closed (length area) (2 + 16 * parts))
    (pick (eqb (get_or area (1 + 16 * parts) 0) 1)
    (pick (leb (length area) (2 + 16 * parts + 8 * blocks)) 1
    (pick (eqb (get_or area (2 + 16 * parts + 8 * blocks) 0) 0) (closed (length area) (3 + 16 * parts + 8 * blocks)) 5))
    5))

unfoldable pub spec_blocks_number : List ℕ → HashBlocks → Area → ℕ → ℕ
spec_blocks_number s b a size = pick (allowed size b) 0 (spec_area_number (spec_part_count size) (spec_block_count size) (area_bytes s a))

-- A part.met E1: the byte ceiling (6), the tags (9, 8, 6), and the blocks.
abbrev pub after_tags : Check (ℕ × List messages.Tag) → (ℕ → ℕ) → ℕ
after_tags (passes p) blocks = blocks p.0
after_tags (violates rule) blocks = number rule

unfoldable pub spec_e1_number : (size : ℕ) → Check (ℕ × List messages.Tag) → (ℕ → ℕ) → ℕ
spec_e1_number size check blocks = pick (leb size met_ceiling) (after_tags check blocks) 6

-- The places of a part.met E1 are there, its tags have t bytes, and its blocks have this area.
abbrev pub E1Meaning : List ℕ → PartE1 → Result (ℕ × Area) Fault → Type 0
E1Meaning s m (Ok (t, a)) =
    (got tt (m.hash + 16) ≡ hash_there s m.hash) × ((got tt (m.tags.at + t) ≡ items_there decode_tag s m.tags) × AreaOf s m.blocks a)
E1Meaning s m (Err f) = refused (fault_meaning f) ≡ part_e1_there s m

-- What stands before the tags, and all bytes.
abbrev pub e1_head : List ℕ → PartE1 → List ℕ
e1_head s m = byte 0xE1 ++ (byte 0x02 ++ (dword m.date ++ hash_at s m.hash))

abbrev pub e1_bytes : List ℕ → PartE1 → ℕ → Area → List ℕ
e1_bytes s m t a = (e1_head s m ++ (dword m.tags.count ++ bytes_at s m.tags.at t)) ++ area_bytes s a
