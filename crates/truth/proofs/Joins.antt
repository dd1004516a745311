-- The truth of a join is made of the truths of its two sides, or of that of the left one where it decides.
use Prim.Native.Nat.{ℕ}
use mathlib.Core.Path.{◌≡◌, refl, ap}
use mathlib.Core.Bool.{Bool, true, false, not}
use mathlib.Core.List.{List}
use Rattle.format.specs.Messages as messages
use Rattle.format.specs.Tables.{pick}
use Rattle.format.specs.Messages.{Operator, and, or, and_not, Query, Tag}
use Rattle.format.specs.Decoding.{Outcome, refused, got, and_then, Decoder, pure}
use Rattle.format.specs.Order.{decode_query_in}
use Rattle.format.specs.Truth.{combine, holds}
use Rattle.format.proofs.Differ.{differ}
use Rattle.tags.specs.Skips.{offset_after}
use Rattle.query.specs.Nodes.{join, decode_sides}
use Rattle.truth.specs.TruthAnswers.{settled_by, truths}

pub negated : (b : Bool) → not b ≡ pick b false true
negated true = refl
negated false = refl

settled : (o : Operator) (x y : Bool) → true ≡ settled_by o x → x ≡ combine o x y
settled and true y e = differ cc
settled and false y e = refl
settled or true y e = refl
settled or false y e = differ cc
settled and_not true y e = differ cc
settled and_not false y e = refl

module _ (tags : List Tag) (o : Operator) (s : List ℕ) where
  second-side : (q : Query) (b : Outcome Query) →
      truths tags (and_then s b (λ r. pure (messages.join o q r))) ≡ and_then s (truths tags b) (λ y. pure (combine o (holds q tags) y))
  unfolding truths holds
  second-side q (refused f) = refl
  second-side q (got r p) = refl

  first-side : (side : Decoder Query) (a : Outcome Query) →
      truths tags (and_then s a (λ q s at. and_then s (side s at) (λ r. pure (messages.join o q r))))
      ≡ and_then s (truths tags a) (λ x s at. and_then s (truths tags (side s at)) (λ y. pure (combine o x y)))
  unfolding truths
  first-side side (refused f) = refl
  first-side side (got q p) = second-side q (side s p)

  pub truth_join : (d at : ℕ) →
      truths tags (decode_sides (decode_query_in d) (join o) s at)
      ≡ and_then s (truths tags (decode_query_in d s at)) (λ x s at. and_then s (truths tags (decode_query_in d s at)) (λ y. pure (combine o x y)))
  truth_join d at = first-side (decode_query_in d) (decode_query_in d s at)

  -- The right side is decoded, and its truth does not matter.
  pub truth_settled : (b : Outcome Query) (x : Bool) {end : ℕ} → true ≡ settled_by o x → end ≡ offset_after b → (end ≡ 0 → ⊥) →
      got x end ≡ and_then s (truths tags b) (λ y. pure (combine o x y))
  unfolding truths
  truth_settled (refused f) x is e other = absurd (other e)
  truth_settled (got r p) x is e other = rw e (ap (λ x. got x p) (settled o x (holds r tags) is))
