-- What is found by the functions that go past a query. Of their tests 0 tells nothing.
use Rattle.std.specs.Prelude.{ℕ, ◌≤◌, ◌/◌, ◌%◌, ◌≡◌, ◌⊎◌, List, length}
use Rattle.format.specs.Decoding.{Decoder, Outcome, ends, got, refused}

-- The offset after what is decoded at a place. It lies inside the bytes.
abbrev pub EndsAt : {A : Type 0} → Decoder A → List ℕ → (at r : ℕ) → Type 0
EndsAt d s at r = (ends (d s at) ≡ got tt r) × (r ≤ length s)

abbrev pub Passes : {A : Type 0} → Decoder A → List ℕ → (at r : ℕ) → Type 0
Passes d s at r = (r ≡ 0) ⊎ EndsAt d s at r

-- The offset after what was decoded, or 0 where it is refused.
abbrev pub offset_after : {A : Type 0} → Outcome A → ℕ
offset_after (refused f) = 0
offset_after (got a next) = next

-- An extent is a place and a depth in one number: the place is below so many.
abbrev pub places : ℕ
places = 4294967296

abbrev pub end_in : ℕ → ℕ
end_in r = r % places

abbrev pub depth_in : ℕ → ℕ
depth_in r = r / places

abbrev pub Spans : Outcome ℕ → (r : ℕ) → Type 0
Spans o r = (r ≡ 0) ⊎ (o ≡ got (depth_in r) (end_in r))
