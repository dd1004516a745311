-- The opening byte that is decoded is the one that a link lists.
use Prim.Native.Nat.{ℕ}
use mathlib.Core.Path.{◌≡◌, refl, sym, ap, ◌∙◌}
use mathlib.Core.Bool.{Bool, true, false}
use mathlib.Core.List.{List, [], ◌∷◌}
use lib.Dec.{eqb}
use borrow.Author.Tests.{eqb-true}
use Rattle.format.specs.Tables.{pick}
use Rattle.format.specs.Decoding.{Rule, Outcome, refused, got, and_then, settled, passes, violates}
use Rattle.format.specs.Order.{decode_byte}
use Rattle.format.specs.PacketOrder.{check_opening, decode_opening}
use Rattle.wire.specs.declared.Cursor.{Cursor}
use Rattle.std.specs.Prelude.{Ok}
use Rattle.wire.specs.WireAnswers.{number_meaning}
use Rattle.format.proofs.Differ.{differ}
use Rattle.wire.specs.WireAnswers.{Step}

module _ (k : ℕ) (s : List ℕ) (at : ℕ) {b next : ℕ} where
  passed : (a n : ℕ) (t : Bool) → eqb a k ≡ t →
      got b next ≡ settled at 1 (pick (pick t true false) (passes a) (violates Rule.opening)) n → eqb b k ≡ true
  passed a n true q e = let p : b ≡ a = cc in rw p q
  passed a n false q e = differ cc

  decoded : (o : Outcome ℕ) → got b next ≡ and_then s o (λ a s n. settled at 1 (check_opening (k ∷ []) a) n) → eqb b k ≡ true
  decoded (refused f) e = differ cc
  decoded (got a n) e = passed a n (eqb a k) refl e

-- where a step answers with what is decoded
pub opened : (k : ℕ) (s : List ℕ) (at : ℕ) {r : Step ℕ} {b : ℕ} {c : Cursor} →
    r ≡ Ok (b, c) → number_meaning r ≡ decode_opening (k ∷ []) s at → got k c.at ≡ decode_opening (k ∷ []) s at
unfolding decode_opening
opened k s at {c = c} g e = let read = rw g at e in ap (λ n. got n c.at) (sym (eqb-true _ _ (decoded k s at (decode_byte s at) read))) ∙ read
