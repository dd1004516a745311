-- What an answer of `same` says of something that is so exactly when two runs are equal.
use Prim.Native.Nat.{ℕ}
use mathlib.Core.Path.{◌≡◌, sym, ◌∙◌}
use mathlib.Core.Bool.{Bool, true, false}
use mathlib.Core.Logic.{◌↔◌}
use mathlib.Core.List.{List}
use Rattle.format.specs.Tables.{same}
use Rattle.format.proofs.PartTags.{no_true, same_refl, same_true}

equal-same : {k l : List ℕ} → k ≡ l → same k l ≡ true
equal-same {k} {l} e = rw e (same_refl l)

module _ {k l : List ℕ} {r : Bool} (answer : r ≡ same k l) where
  pub says : {P : Type 0} → (k ≡ l) ↔ P → (r ≡ true) ↔ P
  says h = (λ e. h.0 (same_true k l (sym answer ∙ e)), λ p. answer ∙ equal-same (h.1 p))

  pub says-no : {P : Type 0} → r ≡ false → (P → k ≡ l) → (false ≡ true) ↔ P
  says-no h f = (λ e. absurd (no_true e), λ p. absurd (no_true (sym h ∙ answer ∙ equal-same (f p))))

  pub says-equal : r ≡ true → k ≡ l
  says-equal h = same_true k l (sym answer ∙ h)
