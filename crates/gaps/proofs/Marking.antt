-- Laws of marking: what each number means, what an accepted marking leaves, and the theorem over any sequence of markings.
use Prim.Native.Nat.{ℕ, ◌≤◌, ◌<◌}
use native.Mathlib.Omega.{arith}
use native.Mathlib.Decide.{dec_le}
use mathlib.Core.Logic.{◌↔◌}
use mathlib.Core.Path.{◌≡◌, refl, sym, ap, ◌∙◌}
use mathlib.Core.Bool.{Bool, true, false, not, ◌&&◌, cond, and-true}
use mathlib.Core.List.{List, [], ◌∷◌, ◌++◌}
use lib.ListN.{length}
use lib.Dec.{ltb, eqb}
use borrow.Author.Tests.{lt-ltb, le-leb, lt-leb, ltb-true, leb-true, eqb-true, eqb-false}
use Rattle.std.specs.Prelude.{Some, None, Err}
use Rattle.format.specs.Gaps.{Gap, within, missing, Ordered, count, total, subtract, marking}
use Rattle.format.proofs.Gaps.{never, both_true, outside-both, subtract-ordered, subtract-lawful, missing-subtract, total-count, count_same}
use Rattle.gaps.specs.declared.GapRecord.{GapRecord}
use Rattle.gaps.specs.GapRecords.{gaps_of, spec_record_of, lawful_record, missing_count}
use Rattle.gaps.specs.declared.Unmarked.{Unmarked}
use Rattle.gaps.specs.Marking.{MarkOutcome, Markable, answer_of, mark_meaning, markable, refusal, acceptance, marked, covered, mark_all, accepted_ranges}
use Rattle.gaps.specs.MarkingSteps.{subtracted}
use Rattle.output.specs.WriteAnswers.{refusal_number}
use Rattle.output.proofs.Refusals.{not-accepted}
use Rattle.gaps.proofs.GapRecords.{gaps-of-record, lawful-record-exactly}

-- the test says what the rule says
pub markable-exactly : (limit : ℕ) (g : GapRecord) (s e : ℕ) → (markable limit g s e ≡ true) ↔ Markable limit g s e
unfolding markable
markable-exactly limit g s e = (
  λ h. let a = both_true (lawful_record limit g) _ h in
      let b = both_true (ltb s e) _ a.1 in
      let l = (lawful-record-exactly limit g).0 a.0 in
      record { counted = l.0; lawful = l.1; order = ltb-true s e b.0; inside = leb-true e g.size b.1 },
  λ m. rw ((lawful-record-exactly limit g).1 (m.counted, m.lawful), lt-ltb s e m.order, le-leb e g.size m.inside) refl,
)

-- The steps of `mark` come to its answer: p is what its subtraction returns.
module _ (limit : ℕ) (g : GapRecord) (s e : ℕ) (k : markable limit g s e ≡ true) where
  abbrev left : List Gap
  left = subtract (gaps_of g) s e

  left-ordered : Ordered g.size 0 left
  left-ordered =
      let m = (markable-exactly limit g s e).0 k in
      subtract-ordered g.size 0 (gaps_of g) s e m.order m.lawful.ordered

  pub marked-full : subtracted g s e ≡ None → marked limit g s e ≡ refusal 6 g
  unfolding marked marking subtracted
  marked-full f = go (dec_le (length left) 64)
    where
      go : Dec (length left ≤ 64) → marked limit g s e ≡ refusal 6 g
      go (yes h) = let r = rw (le-leb (length left) 64 h) at f in absurd cc
      go (no h) = rw (k, lt-leb (length left) 64 (omega arith)) refl

  module _ (h : GapRecord) (f : subtracted g s e ≡ Some h) where
    room : (length left ≤ 64) × (h ≡ spec_record_of g.size left)
    unfolding subtracted
    room = go (dec_le (length left) 64)
      where
        go : Dec (length left ≤ 64) → (length left ≤ 64) × (h ≡ spec_record_of g.size left)
        go (yes few) = let r = rw (le-leb (length left) 64 few) at f in (few, cc)
        go (no many) = let r = rw (lt-leb (length left) 64 (omega arith)) at f in absurd cc

    pub after-ordered : (h.count ≤ 64) × Ordered h.size 0 (gaps_of h)
    after-ordered = rw room.1 (room.0, rw (gaps-of-record g.size left) left-ordered)

    pub marked-room : (n : ℕ) → n ≡ total (gaps_of h) → marked limit g s e ≡ record { number = 0; missing = n; after = h }
    unfolding marked marking
    marked-room n q =
        let t : total (gaps_of h) ≡ total left = rw room.1 (ap total (gaps-of-record g.size left)) in
        rw (k, le-leb (length left) 64 room.0, q ∙ t ∙ total-count g.size 0 left left-ordered, room.1) refl

-- The answer to one marking
module _ (limit : ℕ) (g : GapRecord) (s e : ℕ) where
  abbrev answer : MarkOutcome
  answer = marked limit g s e

  abbrev rest : List Gap
  rest = subtract (gaps_of g) s e

  -- the three cases
  data Outcome : Type 0 where
    accepted : Markable limit g s e → length rest ≤ 64 → answer ≡ acceptance g rest (count (missing rest) g.size) → Outcome
    too_many : Markable limit g s e → 64 < length rest → answer ≡ refusal 6 g → Outcome
    barred : (Markable limit g s e → ⊥) → answer ≡ refusal 8 g → Outcome

  outcome : Outcome
  unfolding marked marking
  outcome = go (markable limit g s e) refl (dec_le (length rest) 64)
    where
      go : (t : Bool) → markable limit g s e ≡ t → Dec (length rest ≤ 64) → Outcome
      go false q d = barred (λ m. never (markable limit g s e) ((markable-exactly limit g s e).1 m) q) (rw q refl)
      go true q (no h) = too_many ((markable-exactly limit g s e).0 q) (omega arith) (rw (q, lt-leb (length rest) 64 (omega arith)) refl)
      go true q (yes h) = accepted ((markable-exactly limit g s e).0 q) h (rw (q, le-leb (length rest) 64 h) refl)

  numbered : {m : MarkOutcome} → answer ≡ m → answer.number ≡ m.number
  numbered q = ap (λ (m : MarkOutcome). m.number) q

  -- 0: the range may be marked, and at most 64 gaps are left
  pub zero-exactly : (answer.number ≡ 0) ↔ (Markable limit g s e × (length rest ≤ 64))
  zero-exactly = (λ h. go h outcome, λ m. back m outcome)
    where
      go : answer.number ≡ 0 → Outcome → Markable limit g s e × (length rest ≤ 64)
      go h (accepted m few q) = (m, few)
      go h (too_many m many q) = absurd (omega (arith, numbered q))
      go h (barred f q) = absurd (omega (arith, numbered q))

      back : Markable limit g s e × (length rest ≤ 64) → Outcome → answer.number ≡ 0
      back m (accepted _ _ q) = numbered q
      back m (too_many _ many q) = absurd (omega arith)
      back m (barred f q) = absurd (f m.0)

  -- 6: it may be marked, and more gaps are left
  pub six-exactly : (answer.number ≡ 6) ↔ (Markable limit g s e × (64 < length rest))
  six-exactly = (λ h. go h outcome, λ m. back m outcome)
    where
      go : answer.number ≡ 6 → Outcome → Markable limit g s e × (64 < length rest)
      go h (accepted m few q) = absurd (omega (arith, numbered q))
      go h (too_many m many q) = (m, many)
      go h (barred f q) = absurd (omega (arith, numbered q))

      back : Markable limit g s e × (64 < length rest) → Outcome → answer.number ≡ 6
      back m (accepted _ few q) = absurd (omega arith)
      back m (too_many _ _ q) = numbered q
      back m (barred f q) = absurd (f m.0)

  -- 8: it may not be marked
  pub eight-exactly : (answer.number ≡ 8) ↔ (Markable limit g s e → ⊥)
  eight-exactly = (λ h. go h outcome, λ f. back f outcome)
    where
      go : answer.number ≡ 8 → Outcome → Markable limit g s e → ⊥
      go h (accepted m few q) = λ _. omega (arith, numbered q)
      go h (too_many m many q) = λ _. omega (arith, numbered q)
      go h (barred f q) = f

      back : (Markable limit g s e → ⊥) → Outcome → answer.number ≡ 8
      back f (accepted m _ _) = absurd (f m)
      back f (too_many m _ _) = absurd (f m)
      back f (barred _ q) = numbered q

  -- a refusal returns the record given and no count
  pub refused-as-given : (answer.number ≡ 0 → ⊥) → answer ≡ refusal answer.number g
  refused-as-given h = go outcome
    where
      go : Outcome → answer ≡ refusal answer.number g
      go (accepted m few q) = absurd (h (numbered q))
      go (too_many m many q) = rw q refl
      go (barred f q) = rw q refl

  -- what a call that is refused answers, and the record that it leaves
  pub handed-back : (u : Unmarked) → mark_meaning (Err u) ≡ answer →
      (record { number = refusal_number u.refusal; missing = 0 } ≡ answer_of answer) × (g ≡ answer.after)
  handed-back u h =
      let refused = refused-as-given (λ z. omega (arith, not-accepted u.refusal, numbered (sym h), z)) in
      (ap answer_of h, sym (ap (λ (m : MarkOutcome). m.after) refused))

  pub size-after : answer.after.size ≡ g.size
  size-after = go outcome
    where
      go : Outcome → answer.after.size ≡ g.size
      go (accepted m few q) = rw q refl
      go (too_many m many q) = rw q refl
      go (barred f q) = rw q refl

  -- a lawful record stays lawful, whatever the answer
  pub lawful-after : lawful_record limit g ≡ true → lawful_record limit answer.after ≡ true
  lawful-after l = go outcome
    where
      go : Outcome → lawful_record limit answer.after ≡ true
      go (accepted m few q) =
          let k = subtract-lawful limit g.size (gaps_of g) s e m.order few m.lawful in
          (lawful-record-exactly limit answer.after).1 (rw q (few, rw (gaps-of-record g.size rest) k))
      go (too_many m many q) = rw q l
      go (barred f q) = rw q l

  -- an accepted marking: its answer, its gaps, its missing bytes, its count
  pub accepted-as : answer.number ≡ 0 → answer ≡ acceptance g rest (count (missing rest) g.size)
  accepted-as h = go outcome
    where
      go : Outcome → answer ≡ acceptance g rest (count (missing rest) g.size)
      go (accepted m few q) = q
      go (too_many m many q) = absurd (omega (arith, numbered q))
      go (barred f q) = absurd (omega (arith, numbered q))

  pub gaps-after : answer.number ≡ 0 → gaps_of answer.after ≡ rest
  gaps-after h = rw (accepted-as h) (gaps-of-record g.size rest)

  pub missing-after : answer.number ≡ 0 → (x : ℕ) → missing (gaps_of answer.after) x ≡ (missing (gaps_of g) x && not (within s e x))
  missing-after h x = rw (gaps-after h) (missing-subtract (gaps_of g) s e x)

  pub count-after : answer.number ≡ 0 → answer.missing ≡ count (missing (gaps_of answer.after)) g.size
  count-after h = rw (gaps-after h, accepted-as h) refl

-- What a sequence of markings leaves

-- one marking more at the front: what holds of the record after it holds of the record before it
module _ (limit : ℕ) (g : GapRecord) (r : Gap) (ranges : List Gap) (x : ℕ) where
  abbrev first : MarkOutcome
  first = marked limit g r.start r.end

  abbrev others : List Gap
  others = accepted_ranges limit first.after ranges

  one-before : missing (gaps_of (mark_all limit first.after ranges)) x ≡ (missing (gaps_of first.after) x && not (covered others x))
      → missing (gaps_of (mark_all limit g (r ∷ ranges))) x ≡ (missing (gaps_of g) x && not (covered (accepted_ranges limit g (r ∷ ranges)) x))
  unfolding mark_all accepted_ranges missing
  one-before i = go (eqb first.number 0) refl
    where
      go : (t : Bool) → eqb first.number 0 ≡ t
          → missing (gaps_of (mark_all limit first.after ranges)) x ≡ (missing (gaps_of g) x && not (covered (cond t (r ∷ others) others) x))
      go true q =
          i ∙ rw (missing-after limit g r.start r.end (eqb-true first.number 0 q) x)
          (outside-both (missing (gaps_of g) x) (within r.start r.end x) (covered others x))
      go false q = i ∙ rw (refused-as-given limit g r.start r.end (eqb-false first.number 0 q)) refl

-- a byte is missing at the end exactly if it was missing at the start and lies in no accepted range
pub missing-at-end : (limit : ℕ) (g : GapRecord) (ranges : List Gap) (x : ℕ)
    → missing (gaps_of (mark_all limit g ranges)) x ≡ (missing (gaps_of g) x && not (covered (accepted_ranges limit g ranges) x))
unfolding mark_all accepted_ranges missing
missing-at-end limit g [] x = sym (and-true (missing (gaps_of g) x))
missing-at-end limit g (r ∷ ranges) x =
    one-before limit g r ranges x (missing-at-end limit (marked limit g r.start r.end).after ranges x)

pub size-at-end : (limit : ℕ) (g : GapRecord) (ranges : List Gap) → (mark_all limit g ranges).size ≡ g.size
unfolding mark_all
size-at-end limit g [] = refl
size-at-end limit g (r ∷ ranges) =
    size-at-end limit (marked limit g r.start r.end).after ranges ∙ size-after limit g r.start r.end

pub lawful-at-end : (limit : ℕ) (g : GapRecord) (ranges : List Gap) → lawful_record limit g ≡ true → lawful_record limit (mark_all limit g ranges) ≡ true
unfolding mark_all
lawful-at-end limit g [] l = l
lawful-at-end limit g (r ∷ ranges) l =
    lawful-at-end limit (marked limit g r.start r.end).after ranges (lawful-after limit g r.start r.end l)

-- the number of such bytes is the number of missing bytes of a lawful record at the end
pub count-at-end : (limit : ℕ) (g : GapRecord) (ranges : List Gap) → lawful_record limit g ≡ true
    → missing_count limit (mark_all limit g ranges) ≡ count (λ x. missing (gaps_of g) x && not (covered (accepted_ranges limit g ranges) x)) g.size
unfolding missing_count
count-at-end limit g ranges l =
    rw (lawful-at-end limit g ranges l, size-at-end limit g ranges)
    (count_same (missing (gaps_of (mark_all limit g ranges))) (λ x. missing (gaps_of g) x && not (covered (accepted_ranges limit g ranges) x)) g.size
    (λ x _. missing-at-end limit g ranges x))

one-after : (limit : ℕ) (g : GapRecord) (ranges : List Gap) (r : Gap)
    → mark_all limit g (ranges ++ (r ∷ [])) ≡ (marked limit (mark_all limit g ranges) r.start r.end).after
unfolding mark_all
one-after limit g [] r = refl
one-after limit g (q ∷ ranges) r = one-after limit (marked limit g q.start q.end).after ranges r

-- and the count that the last marking of a sequence answers
pub last-count : (limit : ℕ) (g : GapRecord) (ranges : List Gap) (r : Gap)
    → (marked limit (mark_all limit g ranges) r.start r.end).number ≡ 0
    → (marked limit (mark_all limit g ranges) r.start r.end).missing
    ≡ count (λ x. missing (gaps_of g) x && not (covered (accepted_ranges limit g (ranges ++ (r ∷ []))) x)) g.size
last-count limit g ranges r h =
    count-after limit (mark_all limit g ranges) r.start r.end h
    ∙ rw (← one-after limit g ranges r, size-at-end limit g ranges)
    (count_same (missing (gaps_of (mark_all limit g (ranges ++ (r ∷ [])))))
    (λ x. missing (gaps_of g) x && not (covered (accepted_ranges limit g (ranges ++ (r ∷ []))) x)) g.size
    (λ x _. missing-at-end limit g (ranges ++ (r ∷ [])) x))
