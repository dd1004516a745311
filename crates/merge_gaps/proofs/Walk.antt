-- A walk over the bounds of one record: where the least next bound of several lies, those at it are passed.
use Prim.Native.Nat.{ℕ, suc, ◌+◌, ◌≤◌, ◌<◌}
use native.Mathlib.Omega.{arith}
use native.Mathlib.Decide.{dec_lt}
use native.Mathlib.Numerals.{add-one}
use mathlib.Core.Path.{◌≡◌, refl, sym, ap, ◌∙◌, subst}
use mathlib.Core.Bool.{Bool, true, false}
use mathlib.Core.List.{List, [], ◌∷◌, ◌++◌}
use lib.ListN.{length, take, drop, drop_of_length-le, get_or-eq_default}
use lib.Seq.{take-suc, drop-cons, length-take-le}
use lib.Dec.{eqb}
use borrow.Author.Tests.{eqb-true, eqb-false}
use Rattle.format.specs.Tables.{pick}
use Rattle.merge_gaps.specs.Bounds.{odd, no_bound, bound_after}
use Rattle.merge_gaps.proofs.Rising.{Rising, rising-range, rising-to, rising-more, enclosed, enclosed-more, enclosed-all}

-- Of n bounds the first i lie below `reached`, and the others do not; all lie below `top`.
pub record Walk (l : List ℕ) (n top i reached : ℕ) : Type 0 where
  pub long : length l ≡ n
  pub passed : i ≤ n
  pub before : Rising 0 reached (take i l)
  pub ahead : Rising reached top (drop i l)

pub walk_none : (l : List ℕ) (n top : ℕ) → length l ≡ n → Rising 0 top l → Walk l n top 0 0
unfolding Rising
walk_none l n top e r = record { long = e; passed = omega arith; before = omega arith; ahead = r }

abbrev pub passed_at : List ℕ → (i at : ℕ) → ℕ
passed_at l i at = pick (eqb (bound_after l i) at) (i + 1) i

pub passed-grows : (l : List ℕ) (i at : ℕ) → (i ≤ passed_at l i at) × (bound_after l i ≡ at → i < passed_at l i at)
passed-grows l i at = go (eqb (bound_after l i) at) refl
  where
    go : (t : Bool) → eqb (bound_after l i) at ≡ t → (i ≤ pick t (i + 1) i) × (bound_after l i ≡ at → i < pick t (i + 1) i)
    go true e = (omega arith, λ q. omega arith)
    go false e = (omega arith, λ q. absurd (eqb-false (bound_after l i) at e q))

module _ {l : List ℕ} {n top i reached : ℕ} (w : Walk l n top i reached) where
  -- a byte from `reached` on lies after all that are passed
  pub walk-odd : (x : ℕ) → reached ≤ suc x → enclosed (take i l) x ≡ odd i
  walk-odd x h = enclosed-all 0 reached (take i l) x h w.before ∙ ap odd (length-take-le i l (omega (arith, w.long, w.passed)))

  pub reached-top : reached ≤ top
  reached-top = rising-range reached top (drop i l) w.ahead

  next-in : i < n → Rising reached top (bound_after l i ∷ drop (suc i) l)
  next-in h = rw (drop-cons l i no_bound (omega (arith, w.long))) at w.ahead

  pub next-below : i < n → bound_after l i < top
  unfolding Rising
  next-below h = rising-range (suc (bound_after l i)) top (drop (suc i) l) (next-in h).1

  none-next : n ≤ i → bound_after l i ≡ no_bound
  none-next h = get_or-eq_default l no_bound {n = i} (omega (arith, w.long))

  module _ (high : top ≤ no_bound) where
    pub next-above : reached ≤ bound_after l i
    unfolding Rising
    next-above = go (dec_lt i n)
      where
        go : Dec (i < n) → reached ≤ bound_after l i
        go (yes h) = (next-in h).0
        go (no h) = omega (arith, none-next (omega arith), reached-top)

    -- the bound at `at` is passed, if it is one of these
    module _ (at : ℕ) (above : reached ≤ at) (least : at ≤ bound_after l i) (inside : at < top) where
      pub walk-on : Walk l n top (passed_at l i at) (suc at) × ((x : ℕ) → x < at → enclosed (take (passed_at l i at) l) x ≡ enclosed (take i l) x)
      unfolding Rising
      walk-on = go (eqb (bound_after l i) at) refl (dec_lt i n)
        where
          go : (t : Bool) → eqb (bound_after l i) at ≡ t → Dec (i < n)
              → Walk l n top (pick t (i + 1) i) (suc at) × ((x : ℕ) → x < at → enclosed (take (pick t (i + 1) i) l) x ≡ enclosed (take i l) x)
          go true e (yes h) =
              let q : bound_after l i ≡ at = eqb-true (bound_after l i) at e in
              let one : take (i + 1) l ≡ take i l ++ at ∷ [] = ap (λ n. take n l) (add-one i) ∙ take-suc l i no_bound (omega (arith, w.long)) ∙ ap (λ b. take i l ++ b ∷ []) q in (
                record {
                  long = w.long;
                  passed = omega arith;
                  before = rw one (rising-more 0 at (take i l) (rising-to 0 reached at (take i l) above w.before));
                  ahead = subst (λ k. Rising (suc at) top (drop k l)) (sym (add-one i)) (rw q at (next-in h).1);
                },
                λ x k. rw one (enclosed-more (take i l) at x k),
              )
          go true e (no h) = absurd (omega (arith, eqb-true (bound_after l i) at e, none-next (omega arith)))
          go false e d =
              let other : bound_after l i ≡ at → ⊥ = eqb-false (bound_after l i) at e in (
                record {
                  long = w.long;
                  passed = w.passed;
                  before = rising-to 0 reached (suc at) (take i l) (omega arith) w.before;
                  ahead = later (omega arith) d;
                },
                λ x k. refl,
              )
            where
              later : at < bound_after l i → Dec (i < n) → Rising (suc at) top (drop i l)
              later k (yes h) = rw (drop-cons l i no_bound (omega (arith, w.long))) (k, (next-in h).1)
              later k (no h) = rw (drop_of_length-le l {i = i} (omega (arith, w.long))) inside
