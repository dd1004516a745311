-- A part is moved along a text, after a mismatch by its least shift: it stands at no offset that is left out.
use Prim.Native.Nat.{ℕ, ◌+◌, ◌-◌, ◌*◌, ◌≤◌, ◌<◌}
use mathlib.Core.Path.{◌≡◌, refl, sym, ap, ◌∙◌}
use mathlib.Core.Bool.{Bool, true, false}
use mathlib.Core.List.{List}
use native.Mathlib.Omega.{arith}
use lib.ListN.{length, get_or}
use lib.Dec.{eqb, ltb}
use borrow.Author.Tests.{ltb-true, ltb-false, eqb-true, eqb-false}
use borrow.Author.Count.{below_more}
use Rattle.format.specs.Truth.{occurs}
use Rattle.format.proofs.Differ.{differ}
use Rattle.format.proofs.PartTags.{either-test}
use Rattle.find.specs.Shifts.{Agrees, Decides, LeastShift, Moves, NoEnds, StandsIn}
use Rattle.find.proofs.Offsets.{occurs-at, occurs-nowhere}

-- At no offset from `low` up to `start` does the part agree with the text over the length that is wanted there.
abbrev pub Passed : (part text : List ℕ) (wanted : ℕ → ℕ) (low start : ℕ) → Type 0
Passed part text wanted low start = (d : ℕ) → low ≤ d → d < start → Agrees part text d (wanted d) → ⊥

-- The least shift of the length rounded down serves the length.
pub rounded : (p : List ℕ) (n k shift : ℕ) → 8 * k ≤ n → n < 8 * k + 8 → LeastShift p (8 * k) shift → Moves p n shift (8 * k - shift)
rounded p n k shift h l s =
    record {
      some = s.some;
      near = omega arith;
      within = λ q. omega arith;
      onward = omega arith;
      agrees = s.agrees;
      least = λ d q r a. s.least d q r (λ i f. a i (omega arith));
    }

module _ (p t : List ℕ) (start n shift kept : ℕ) (m : Moves p n shift kept) (a : Agrees p t start n) where
  pub moved : Agrees p t (start + shift) kept
  moved i h =
      let inside : shift + i < n = omega (arith, m.within (omega arith)) in
      m.agrees i h ∙ a (shift + i) inside ∙ ap (λ k. get_or t k 0) (omega arith)

  -- If it stood between the old offset and the new one, a lesser shift would agree.
  left_out : (d wanted : ℕ) → start < d → d < start + shift → start + n ≤ d + wanted → Agrees p t d wanted → ⊥
  left_out d wanted h k l b = m.least (d - start) (omega arith) (omega arith) lesser
    where
      lesser : Agrees p p (d - start) (n - (d - start))
      lesser i f =
          let here : d + i ≡ start + ((d - start) + i) = omega arith in
          b i (omega arith) ∙ ap (λ k. get_or t k 0) here ∙ sym (a ((d - start) + i) (omega arith))

  pub passed-more : (wanted : ℕ → ℕ) (low : ℕ) → ((d : ℕ) → start ≤ d → start + n < d + wanted d) → (get_or p n 0 ≡ get_or t (start + n) 0 → ⊥) →
      Passed p t wanted low start → Passed p t wanted low (start + shift)
  passed-more wanted low far differs before d h k b = either-test (ltb d start) (λ e. before d h (ltb-true d start e) b) (λ e. from_start (ltb-false d start e))
    where
      at-start : d ≡ start → ⊥
      at-start e = differs (b n (omega (arith, far d (omega arith))) ∙ ap (λ k. get_or t (k + n) 0) e)

      from_start : start ≤ d → ⊥
      from_start g =
          either-test (eqb d start) (λ e. at-start (eqb-true d start e))
          (λ e. left_out d (wanted d) (omega (arith, eqb-false d start e)) k (omega (arith, far d g)) b)

-- Each offset is tried.
module _ (p t : List ℕ) where
  pub passed-one : (low start : ℕ) → Passed p t (λ d. length p) low start → (Agrees p t start (length p) → ⊥) → Passed p t (λ d. length p) low (start + 1)
  passed-one low start before here d h k =
      below_more (λ d. low ≤ d → Agrees p t d (length p) → ⊥) start (λ d k h. before d h k) (λ h. here) d k h

  pub first-differs : (start : ℕ) → 0 < length p → (get_or t start 0 ≡ get_or p 0 0 → ⊥) → Agrees p t start (length p) → ⊥
  first-differs start h differs a = let e : start ≡ start + 0 = omega arith in differs (ap (λ k. get_or t k 0) e ∙ sym (a 0 h))

  pub stands-yes : (from end d : ℕ) → from ≤ d → d < end → Agrees p t d (length p) → Decides true (StandsIn p t from end)
  stands-yes from end d h k a = record { yes = λ e. record { offset = d; low = h; high = k; agrees = a }; no = λ e. differ cc }

  pub stands-no : (from end : ℕ) → (StandsIn p t from end → ⊥) → Decides false (StandsIn p t from end)
  stands-no from end never = record { yes = λ e. differ cc; no = λ e. never }

  pub passed-stands : (from end start : ℕ) → end ≤ start → Passed p t (λ d. length p) from start → StandsIn p t from end → ⊥
  passed-stands from end start h before it = before it.offset it.low (omega (arith, it.high)) it.agrees

  pub passed-all : (start : ℕ) → length t < start + length p → Passed p t (λ d. length p) 0 start → occurs p t ≡ false
  passed-all start h before = occurs-nowhere p t (λ d k. before d (omega arith) (omega arith))

  -- Each block is tried: what is left out before it was tried before.
  pub passed-block : (from end start : ℕ) → from ≤ start → Passed p t (λ d. length p) 0 start → (StandsIn p t from end → ⊥) → Passed p t (λ d. length p) 0 end
  passed-block from end start h before never d low k a =
      either-test (ltb d start) (λ e. before d low (ltb-true d start e) a)
      (λ e. never (record { offset = d; low = omega (arith, ltb-false d start e); high = k; agrees = a }))

  pub no-ends-stand : (from n : ℕ) → 0 < length p → NoEnds t from (length p - 1) (get_or p 0 0) (get_or p (length p - 1) 0) n → StandsIn p t from (from + n) → ⊥
  no-ends-stand from n h none it =
      let d = it.offset in
      let low = it.low in
      let high = it.high in
      let first : from + (d - from) ≡ d + 0 = omega arith in
      let last : from + (length p - 1) + (d - from) ≡ d + (length p - 1) = omega arith in
      none (d - from) (omega arith)
      (ap (λ k. get_or t k 0) first ∙ sym (it.agrees 0 h))
      (ap (λ k. get_or t k 0) last ∙ sym (it.agrees (length p - 1) (omega arith)))

  -- What is found at all offsets is whether the part occurs.
  pub stands-occurs : (end : ℕ) (r : Bool) → end + length p ≡ length t + 1 → Decides r (StandsIn p t 0 end) → r ≡ occurs p t
  stands-occurs end true h d = let it = d.yes refl in sym (occurs-at p t it.offset (omega (arith, it.high)) it.agrees)
  stands-occurs end false h d =
      sym (occurs-nowhere p t (λ offset k a. d.no refl (record { offset = offset; low = omega arith; high = omega arith; agrees = a })))

-- A search by the table has come to an offset: the part stands at none before it, and its first bytes agree there.
pub record Searching (part text : List ℕ) (start matched : ℕ) : Type 0 where
  pub within : matched ≤ length part
  pub agrees : Agrees part text start matched
  pub passed : Passed part text (λ d. length part) 0 start

module _ (p t : List ℕ) where
  pub search-first : Searching p t 0 0
  search-first = record { within = omega arith; agrees = λ i h. absurd (omega arith); passed = λ d h k b. absurd (omega arith) }

  module _ (start matched : ℕ) (now : Searching p t start matched) where
    pub search-more : matched < length p → get_or p matched 0 ≡ get_or t (start + matched) 0 → Searching p t start (matched + 1)
    search-more h e = record { within = omega arith; agrees = below_more _ matched now.agrees e; passed = now.passed }

    pub search-moved : matched < length p → (get_or p matched 0 ≡ get_or t (start + matched) 0 → ⊥) → (shift kept : ℕ) → Moves p matched shift kept →
        Searching p t (start + shift) kept
    search-moved h differs shift kept m =
        record {
          within = omega arith;
          agrees = moved p t start matched shift kept m now.agrees;
          passed = passed-more p t start matched shift kept m now.agrees (λ d. length p) 0 (λ d k. omega arith) differs now.passed;
        }

    pub search-found : matched ≡ length p → start + length p ≤ length t → occurs p t ≡ true
    search-found e h = occurs-at p t start h (rw (← e) now.agrees)
