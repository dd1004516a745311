-- What the functions of this crate work out for the writers. No contract of a public function cites these: proofs/Leaves, Joins and Items
-- show that they are the numbers of the format.
use Rattle.std.specs.Prelude.{ℕ, ◌+◌, List, eqb, leb}
use Rattle.format.specs.Tables.{pick}
use Rattle.format.specs.Rules.{depth_limit, name_limit, packet_ceiling}
use Rattle.format.specs.Writing.{Written, unwritten, written_into}

-- The number for pieces with these lengths: 6 for a text or name that its count field, a WORD, cannot hold; then what the reader says of
-- the bytes: 6 above the byte ceiling, 5 for an empty name, 6 for a name above 255 bytes. The room (10) is left out.
abbrev pub count_number : ℕ → ℕ → ℕ
count_number n next = pick (leb n 65535) next 6

abbrev pub ceiling_number : ℕ → ℕ → ℕ
ceiling_number size next = pick (leb size packet_ceiling) next 6

abbrev pub spec_name_number : ℕ → ℕ
spec_name_number n = pick (eqb n 0) 5 (pick (leb n name_limit) 0 6)

-- The sizes are those of the bytes: a case byte, a WORD before each text and name, and for a limit a DWORD and a byte.
unfoldable pub spec_keyword_number : ℕ → ℕ
spec_keyword_number text = count_number text (ceiling_number (3 + text) 0)

unfoldable pub spec_field_number : ℕ → ℕ → ℕ
spec_field_number text name = count_number text (count_number name (ceiling_number (5 + text + name) (spec_name_number name)))

unfoldable pub spec_limit_number : ℕ → ℕ
spec_limit_number name = count_number name (ceiling_number (8 + name) (spec_name_number name))

-- A join is checked by its size and its depth.
unfoldable pub spec_join_number : ℕ → ℕ → ℕ
spec_join_number size deep = ceiling_number size (pick (leb deep depth_limit) 0 6)

-- A single tag has no byte ceiling.
unfoldable pub spec_tag_number : ℕ → ℕ → ℕ
spec_tag_number name text = count_number name (count_number text (spec_name_number name))

-- The write of finished bytes that have this number.
abbrev pub tried : ℕ → List ℕ → List ℕ → Written
tried number bytes output = pick (eqb number 0) (written_into bytes output) (unwritten number output)
