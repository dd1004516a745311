-- Two markings over numbers leave the same in either order (specs/EitherOrder): they are two markings of the record that the numbers hold, and
-- the numbers after it stay.
use Prim.Native.Nat.{ℕ}
use native.Mathlib.Omega.{arith}
use mathlib.Core.Path.{◌≡◌, refl, sym, ap, ◌∙◌}
use mathlib.Core.List.{List, ◌++◌}
use lib.ListN.{length, drop, length-append, length-map, length-replicate}
use lib.Seq.{drop_at}
use borrow.Author.Tests.{eq-eqb}
use Rattle.format.specs.Gaps.{Gap, size_limit}
use Rattle.std.specs.Prelude.{Result}
use Rattle.gaps.specs.Marking.{MarkOutcome, answer_meaning, marked}
use Rattle.gaps.specs.EitherOrder.{EitherOrder, InPlace, MarkedInTurn}
use Rattle.gaps.proofs.EitherOrder.{in_place, number-told}
use Rattle.gaps.proofs.Marking.{accepted-as, zero-exactly}
use Rattle.output.specs.declared.Refusal.{Refusal}
use Rattle.gap_numbers.specs.Numbers.{numbers_of, record_in}
use Rattle.gap_numbers.specs.EitherOrder.{OverNumbers}
use Rattle.gap_numbers.proofs.Numbers.{length-numbers}
use Rattle.gap_numbers.proofs.Records.{record-back}

-- One marking over numbers that is accepted
module _ (given : List ℕ) (r : Gap) (a : Result ℕ Refusal) (left : List ℕ) (m : OverNumbers given r a left) (zero : (answer_meaning a).number ≡ 0) where
  abbrev done : MarkOutcome
  done = marked size_limit (record_in given) r.start r.end

  done-zero : done.number ≡ 0
  done-zero = number-told done m.told zero

  -- the record made has all its places
  places : length done.after.gaps ≡ 64
  places =
      let few = ((zero-exactly size_limit (record_in given) r.start r.end).0 done-zero).1 in
      rw (accepted-as size_limit (record_in given) r.start r.end done-zero) (simp (length-append, length-map, length-replicate) (omega arith))

  long : length (numbers_of done.after) ≡ 130
  long = omega (arith, length-numbers done.after.gaps, places)

  numbers-left : left ≡ numbers_of done.after ++ drop 130 given
  numbers-left = m.numbers ∙ rw (eq-eqb done.number 0 done-zero) refl ∙ ap (λ n. numbers_of done.after ++ drop n given) long

  record-left : record_in left ≡ done.after
  record-left = ap record_in numbers-left ∙ record-back done.after (drop 130 given) places

  -- what stands after the record stays
  rest-left : drop 130 left ≡ drop 130 given
  rest-left = ap (drop 130) numbers-left ∙ drop_at (numbers_of done.after) (drop 130 given) 130 long

  in-record : InPlace size_limit (record_in given) r a (record_in left)
  in-record = (m.told, record-left)

-- Two of them
module _ {given left : List ℕ} {first second : Gap} {a : Result ℕ Refusal} (t : MarkedInTurn OverNumbers given first second a left) where
  abbrev between : List ℕ
  between = t.between

  in-records : MarkedInTurn (InPlace size_limit) (record_in given) first second a (record_in left)
  in-records = record {
    answer_between = t.answer_between;
    between = record_in between;
    one = in-record given first t.answer_between between t.one t.one_accepted;
    one_accepted = t.one_accepted;
    other = in-record between second a left t.other t.other_accepted;
    other_accepted = t.other_accepted;
  }

  -- the numbers at the end are those of the record at the end, and those that were given after it
  at-end : left ≡ numbers_of (record_in left) ++ drop 130 given
  at-end =
      numbers-left between second a left t.other t.other_accepted
      ∙ rw (record-left between second a left t.other t.other_accepted, rest-left given first t.answer_between between t.one t.one_accepted) refl

pub over-numbers : EitherOrder OverNumbers
over-numbers given first second a b left left' s t =
    let same = in_place size_limit (record_in given) first second a b (record_in left) (record_in left') (in-records s) (in-records t) in
    (same.0, at-end s ∙ ap (λ g. numbers_of g ++ drop 130 given) same.1 ∙ sym (at-end t))
