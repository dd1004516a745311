-- What the bytes of a tag that lies at an offset say of it, without the tag being read.
use Rattle.std.specs.Prelude.{◌≡◌, List, ℕ, ◌+◌, ◌-◌, get_or}
use Rattle.format.specs.Messages.{Tag}
use Rattle.format.specs.Decoding.{Outcome, refused, got, bytes_at}
use Rattle.format.specs.GapTags.{Role, plain, role}
use Rattle.format.specs.Order.{decode_dword, decode_tag}

-- a tag lies there
abbrev pub TagThere : List ℕ → ℕ → Type 0
TagThere s at = (t : Tag) × ((next : ℕ) × (decode_tag s at ≡ got t next))

-- the DWORD that lies there; 0 where none does
abbrev pub dword_of : Outcome ℕ → ℕ
dword_of (refused f) = 0
dword_of (got n next) = n

abbrev pub spec_dword_at : List ℕ → ℕ → ℕ
spec_dword_at s at = dword_of (decode_dword s at)

-- the length of the name, the bytes of the name after the first, and the number and the offset after a DWORD tag
abbrev pub spec_name_length : List ℕ → ℕ → ℕ
spec_name_length s at = get_or s (at + 1) 0

abbrev pub spec_digits_at : List ℕ → ℕ → List ℕ
spec_digits_at s at = bytes_at s (at + 4) (spec_name_length s at - 1)

abbrev pub number_at : List ℕ → ℕ → ℕ
number_at s at = spec_dword_at s (at + 3 + spec_name_length s at)

abbrev pub after_at : List ℕ → ℕ → ℕ
after_at s at = at + 7 + spec_name_length s at

-- what the tag is to the gaps; what is refused is no gap tag
abbrev pub role_at : Outcome Tag → Role
role_at (refused f) = plain
role_at (got t next) = role t
