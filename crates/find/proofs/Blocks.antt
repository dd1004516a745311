-- The offsets of a block, one after the other.
use Prim.Native.Nat.{ℕ, ◌+◌}
use mathlib.Core.Path.{◌≡◌}
use mathlib.Core.Bool.{Bool, true, false}
use mathlib.Core.Logic.{◌↔◌}
use mathlib.Core.List.{List}
use native.Mathlib.Omega.{arith}
use lib.Dec.{eqb}
use lib.ListN.{get_or}
use borrow.Author.Count.{below_more}
use borrow.Author.Tests.{eqb-true, eqb-false}
use Rattle.format.specs.Tables.{pick}
use Rattle.find.specs.Shifts.{NoEnds}

-- One more offset: it has the two bytes, or what was found before it remains.
pub no-ends-more : (text : List ℕ) (from reach first last n found : ℕ) (a b : Bool) → eqb (get_or text (from + n) 0) first ≡ a →
    eqb (get_or text (from + reach + n) 0) last ≡ b → (found ≡ 0) ↔ NoEnds text from reach first last n →
    (pick a (pick b 1 found) found ≡ 0) ↔ NoEnds text from reach first last (n + 1)
no-ends-more text from reach first last n found a b is-first is_last so_far = go a b is-first is_last
  where
    none_here : ((get_or text (from + n) 0 ≡ first) → (get_or text (from + reach + n) 0 ≡ last) → ⊥) → (found ≡ 0) ↔ NoEnds text from reach first last (n + 1)
    none_here never = (λ z. below_more _ n (so_far.0 z) never, λ f. so_far.1 (λ j k. f j (omega arith)))

    go : (a b : Bool) → eqb (get_or text (from + n) 0) first ≡ a → eqb (get_or text (from + reach + n) 0) last ≡ b →
        (pick a (pick b 1 found) found ≡ 0) ↔ NoEnds text from reach first last (n + 1)
    go true true e f = (λ z. absurd (omega arith), λ g. absurd (g n (omega arith) (eqb-true _ _ e) (eqb-true _ _ f)))
    go true false e f = none_here (λ x y. eqb-false _ _ f y)
    go false b e f = none_here (λ x y. eqb-false _ _ e x)
