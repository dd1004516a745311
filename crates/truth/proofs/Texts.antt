-- The laws of the loops that compare bytes: i bytes are after, and the rest decides.
use Prim.Native.Nat.{ℕ, ◌+◌, ◌<◌, ◌≤◌}
use mathlib.Core.Path.{◌≡◌, refl}
use mathlib.Core.Bool.{Bool, true, false}
use mathlib.Core.List.{List, [], ◌∷◌}
use native.Mathlib.Omega.{arith}
use native.Mathlib.Numerals.{add-one}
use lib.ListN.{length, drop, get_or, drop_of_length-le}
use lib.Seq.{drop-cons}
use lib.Dec.{eqb}
use borrow.Author.Tests.{eq-eqb, ne_eqb}
use Rattle.format.specs.Tables.{pick, same}
use Rattle.format.specs.Truth.{prefix}

both_false : (x : Bool) → pick x false false ≡ false
both_false true = refl
both_false false = refl

-- A text at the front of another.
pub prefix-longer : (t s : List ℕ) → length s < length t → prefix t s ≡ false
unfolding prefix
prefix-longer [] s h = absurd (omega arith)
prefix-longer (a ∷ t) [] h = refl
prefix-longer (a ∷ t) (b ∷ s) h = rw (prefix-longer t s (omega arith)) (both_false (eqb a b))

prefix-none : (s : List ℕ) → prefix [] s ≡ true
unfolding prefix
prefix-none s = refl

module _ (t s : List ℕ) (i : ℕ) where
  prefix-rest : i < length t → i < length s →
      prefix (drop i t) (drop i s) ≡ pick (eqb (get_or t i 0) (get_or s i 0)) (prefix (drop (i + 1) t) (drop (i + 1) s)) false
  unfolding prefix
  prefix-rest h k = rw (add-one, drop-cons t i 0 h, drop-cons s i 0 k) refl

  pub prefix-step : i < length t → i < length s → get_or t i 0 ≡ get_or s i 0 → prefix (drop i t) (drop i s) ≡ prefix (drop (i + 1) t) (drop (i + 1) s)
  prefix-step h k e = rw (prefix-rest h k, eq-eqb _ _ e) refl

  pub prefix-stop : i < length t → i < length s → (get_or t i 0 ≡ get_or s i 0 → ⊥) → prefix (drop i t) (drop i s) ≡ false
  prefix-stop h k e = rw (prefix-rest h k, ne_eqb _ _ e) refl

  pub prefix-done : length t ≤ i → prefix (drop i t) (drop i s) ≡ true
  prefix-done h = rw (drop_of_length-le t h) (prefix-none (drop i s))

-- Two texts are the same if they are as long and one is at the front of the other.
pub same-prefix : (k l : List ℕ) → length k ≡ length l → prefix k l ≡ same k l
unfolding prefix same
same-prefix [] [] e = refl
same-prefix [] (b ∷ l) e = absurd (omega arith)
same-prefix (a ∷ k) [] e = absurd (omega arith)
same-prefix (a ∷ k) (b ∷ l) e = rw (same-prefix k l (omega arith)) refl
