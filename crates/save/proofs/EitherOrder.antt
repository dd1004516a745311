-- Two windows may save in either order (02, No. 12), said of calls: of any two answers that meet the promise of `save`, to the letter, over the
-- same output, answer and output are equal.
use Prim.Native.Nat.{ℕ}
use mathlib.Core.Path.{◌≡◌}
use mathlib.Core.List.{List}
use Rattle.format.specs.Saving.{Saves}
use Rattle.format.specs.EitherOrder.{AllAccepted}
use Rattle.format.proofs.EitherOrder.{either-order-holds}
use Rattle.std.specs.Prelude.{Result}
use Rattle.output.specs.declared.Refusal.{Refusal}
use Rattle.output.specs.WriteAnswers.{answered}
use Rattle.output.proofs.Refusals.{answered_same}

pub calls-exchanged : (stored opened new out : List ℕ) (r q : Result ℕ Refusal) (left right : List ℕ) →
    AllAccepted opened stored new → (stored ≡ opened → ⊥) → (new ≡ opened → ⊥) →
    Saves stored opened new out (answered r left) → Saves new opened stored out (answered q right) → (r ≡ q) × (left ≡ right)
calls-exchanged stored opened new out r q left right h d e s t =
    answered_same r q left right (either-order-holds.save_either_order stored opened new out (answered r left) (answered q right) h d e s t)
