-- What a tag is to the gaps of a part.met, and the gap list that a tag list stands for.
use Rattle.std.proofs.Math.Option.{Option, none, some}
use Rattle.std.specs.Prelude.{List, [], ◌∷◌, ◌++◌, ℕ, eqb}
use Rattle.format.specs.Tables.{pick}
use Rattle.format.specs.Gaps.{Gap}
use Rattle.format.specs.Messages.{TagType, hash_type, string_type, dword_type, float_type, TagValue, Tag}

-- The number of a DWORD tag.
abbrev pub number_of : (t : TagType) → TagValue t → Option ℕ
number_of hash_type v = none
number_of string_type v = none
number_of dword_type v = some v
number_of float_type v = none

-- No gap tag; a gap tag that is no DWORD; a start tag or an end tag with the digits of its name and its number.
pub data Role : Type 0 where
  plain odd : Role
  start end : List ℕ → ℕ → Role

abbrev pub starting : List ℕ → Option ℕ → Role
starting d none = odd
starting d (some n) = start d n

abbrev pub ending : List ℕ → Option ℕ → Role
ending d none = odd
ending d (some n) = end d n

abbrev pub role_in : List ℕ → Option ℕ → Role
role_in [] v = plain
role_in (b ∷ d) v = pick (eqb b 0x09) (starting d v) (pick (eqb b 0x0A) (ending d v) plain)

unfoldable pub role : Tag → Role
role t = role_in t.name (number_of t.value.0 t.value.1)

-- The starts and the ends of a tag list, in order, and the gaps that they make.
abbrev pub start_in : Role → List ℕ
start_in plain = []
start_in odd = []
start_in (start d n) = n ∷ []
start_in (end d n) = []

abbrev pub end_in : Role → List ℕ
end_in plain = []
end_in odd = []
end_in (start d n) = []
end_in (end d n) = n ∷ []

unfoldable pub gap_starts : List Tag → List ℕ
gap_starts [] = []
gap_starts (t ∷ l) = start_in (role t) ++ gap_starts l

unfoldable pub gap_ends : List Tag → List ℕ
gap_ends [] = []
gap_ends (t ∷ l) = end_in (role t) ++ gap_ends l

unfoldable pub zip_gaps : List ℕ → List ℕ → List Gap
zip_gaps [] l = []
zip_gaps (a ∷ k) [] = []
zip_gaps (a ∷ k) (b ∷ l) = record { start = a; end = b } ∷ zip_gaps k l

unfoldable pub gaps_of : List Tag → List Gap
gaps_of tags = zip_gaps (gap_starts tags) (gap_ends tags)
