-- `==` of the code on runs of numbers is the format's comparison.
use Rattle.std.proofs.Common.{ℕ, ◌≡◌, ◌∙◌, ◌&&◌, refl, ap, List, [], ◌∷◌, Bool, true, false}
use Rattle.std.specs.Cmp.Lexicographic.{pointwise}
use Rattle.std.specs.Prelude.{eqb}
use Rattle.format.specs.Tables.{pick, same}

both : (t u : Bool) → (t && u) ≡ pick t u false
both true u = refl
both false u = refl

pub pointwise_same : (k l : List ℕ) → pointwise eqb k l ≡ same k l
unfolding same
pointwise_same [] [] = refl
pointwise_same [] (b ∷ l) = refl
pointwise_same (a ∷ k) [] = refl
pointwise_same (a ∷ k) (b ∷ l) = both (eqb a b) _ ∙ ap (λ t. pick (eqb a b) t false) (pointwise_same k l)
