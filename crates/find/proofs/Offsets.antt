-- What `occurs` says by offsets: a part occurs in a text exactly if there is an offset at which it agrees with the text and ends within it.
use Prim.Native.Nat.{ℕ, zero, suc, ◌+◌, ◌≤◌, ◌<◌}
use mathlib.Core.Path.{◌≡◌, refl, sym, ap, ◌∙◌}
use mathlib.Core.Bool.{true, false}
use mathlib.Core.List.{List, [], ◌∷◌}
use native.Mathlib.Omega.{arith}
use lib.ListN.{length, get_or}
use lib.Dec.{eqb}
use borrow.Author.Tests.{eqb-true, eq-eqb}
use Rattle.format.specs.Truth.{prefix, occurs}
use Rattle.format.proofs.PartTags.{either-test}
use Rattle.find.specs.Shifts.{Agrees}

-- At the front.
abbrev Front : (p t : List ℕ) → Type 0
Front p t = (i : ℕ) → i < length p → get_or p i 0 ≡ get_or t i 0

prefix-true : (p t : List ℕ) → length p ≤ length t → Front p t → prefix p t ≡ true
unfolding prefix
prefix-true [] t h a = refl
prefix-true (x ∷ p) [] h a = absurd (omega arith)
prefix-true (x ∷ p) (y ∷ t) h a = rw (eq-eqb x y (a 0 (omega arith))) (prefix-true p t (omega arith) (λ i k. a (suc i) (omega arith)))

prefix-false : (p t : List ℕ) → (length p ≤ length t → Front p t → ⊥) → prefix p t ≡ false
unfolding prefix
prefix-false [] t never = absurd (never (omega arith) (λ i h. absurd (omega arith)))
prefix-false (x ∷ p) [] never = refl
prefix-false (x ∷ p) (y ∷ t) never =
    either-test (eqb x y) (λ e. rw e (prefix-false p t (λ h a. never (omega arith) (longer (eqb-true x y e) a)))) (λ e. rw e refl)
  where
    longer : x ≡ y → Front p t → Front (x ∷ p) (y ∷ t)
    longer e a zero h = e
    longer e a (suc i) h = a i (omega arith)

-- Offset 0, and one more: sums of numbers do not compute.
module _ (t : List ℕ) where
  at_front : (i : ℕ) → get_or t i 0 ≡ get_or t (0 + i) 0
  at_front i = let e : i ≡ 0 + i = omega arith in ap (λ k. get_or t k 0) e

  one_later : (b offset i : ℕ) → get_or t (offset + i) 0 ≡ get_or (b ∷ t) (suc offset + i) 0
  one_later b offset i = let e : suc (offset + i) ≡ suc offset + i = omega arith in ap (λ k. get_or (b ∷ t) k 0) e

pub occurs-at : (p t : List ℕ) (offset : ℕ) → offset + length p ≤ length t → Agrees p t offset (length p) → occurs p t ≡ true
unfolding occurs
occurs-at p [] offset h a = prefix-true p [] (omega arith) (λ i k. absurd (omega arith))
occurs-at p (b ∷ t) zero h a = rw (prefix-true p (b ∷ t) (omega arith) (λ i k. a i k ∙ sym (at_front (b ∷ t) i)))
occurs-at p (b ∷ t) (suc offset) h a =
    rw (occurs-at p t offset (omega arith) (λ i k. a i k ∙ sym (one_later t b offset i))) (either-test (prefix p (b ∷ t)) (λ e. rw e) (λ e. rw e))

pub occurs-nowhere : (p t : List ℕ) → ((offset : ℕ) → offset + length p ≤ length t → Agrees p t offset (length p) → ⊥) → occurs p t ≡ false
unfolding occurs
occurs-nowhere p [] never = prefix-false p [] (λ h a. never 0 (omega arith) (λ i k. a i k ∙ at_front [] i))
occurs-nowhere p (b ∷ t) never =
    let here : prefix p (b ∷ t) ≡ false = prefix-false p (b ∷ t) (λ h a. never 0 (omega arith) (λ i k. a i k ∙ at_front (b ∷ t) i)) in
    rw here (occurs-nowhere p t (λ offset h a. never (suc offset) (omega arith) (λ i k. a i k ∙ one_later t b offset i)))

pub occurs-empty : (p t : List ℕ) → length p ≡ 0 → occurs p t ≡ true
occurs-empty p t e = occurs-at p t 0 (omega arith) (λ i h. absurd (omega arith))

pub occurs-longer : (p t : List ℕ) → length t < length p → occurs p t ≡ false
occurs-longer p t h = occurs-nowhere p t (λ offset k. absurd (omega arith))
