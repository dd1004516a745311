-- The two saves may change places (02, No. 12), said of calls: of any two answers that meet the promise of `merge`, to the letter, over the
-- same output, answer and output are equal. So it is of the promise of any other function with this relation, such as `ed2k_merge`.
use Prim.Native.Nat.{ℕ}
use mathlib.Core.Path.{◌≡◌}
use mathlib.Core.List.{List}
use Rattle.format.specs.Merging.{Merges}
use Rattle.format.specs.EitherOrder.{AllAccepted}
use Rattle.format.proofs.EitherOrder.{either-order-holds}
use Rattle.std.specs.Prelude.{Result}
use Rattle.output.specs.declared.Refusal.{Refusal}
use Rattle.output.specs.WriteAnswers.{answered}
use Rattle.output.proofs.Refusals.{answered_same}

pub calls-exchanged : (opened first second out : List ℕ) (r q : Result ℕ Refusal) (left right : List ℕ) → AllAccepted opened first second →
    Merges opened first second out (answered r left) → Merges opened second first out (answered q right) → (r ≡ q) × (left ≡ right)
calls-exchanged opened first second out r q left right h m n =
    answered_same r q left right (either-order-holds.merge_either_order opened first second out (answered r left) (answered q right) h m n)
