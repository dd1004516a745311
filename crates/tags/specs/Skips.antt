-- Where what lies at an offset ends, as the functions that skip a tag find it.
use Rattle.std.specs.Prelude.{◌≡◌, ◌⊎◌, ℕ, ◌+◌, eqb}
use Rattle.format.specs.Tables.{pick}
use Rattle.format.specs.Messages.{TagType, dword_type, float_type, hash_type, string_type}
use Rattle.format.specs.Decoding.{Outcome, got, refused}

-- An offset that the tests found, or 0, which tells nothing.
abbrev pub EndsThere : Outcome (Unit {0}) → ℕ → Type 0
EndsThere o r = (r ≡ 0) ⊎ (o ≡ got tt r)

-- The offset after what lies there, or 0 where it is refused.
abbrev pub offset_after : {A : Type 0} → Outcome A → ℕ
offset_after (refused f) = 0
offset_after (got a next) = next

-- Something was decoded.
abbrev pub Lies : {A : Type 0} → Outcome A → Type 0
Lies (refused f) = ⊥
Lies (got a next) = Unit {0}

-- How many bytes a value has whose first WORD is n: only a text is as long as it says.
abbrev pub value_size : TagType → ℕ → ℕ
value_size hash_type n = 16
value_size string_type n = n + 2
value_size dword_type n = 4
value_size float_type n = 4

-- How many bytes a tag has beside its name, by the code of its type: its own, and those of a text.
abbrev pub spec_own_size : ℕ → ℕ
spec_own_size code = pick (eqb code 2) 5 (pick (eqb code 1) 19 7)

abbrev pub spec_text_size : ℕ → ℕ → ℕ
spec_text_size code n = pick (eqb code 2) n 0
