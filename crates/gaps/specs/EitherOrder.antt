-- Two ranges may be marked in either order (02, No. 12): where no call is refused in either, the last answers and what is left are equal,
-- the whole record with its unused places. Said of any way to mark, and of the ways of this crate; proofs/EitherOrder shows it.
use Rattle.std.specs.Prelude.{ℕ, ◌≡◌, Result}
use Rattle.format.specs.Gaps.{Gap}
use Rattle.gaps.specs.declared.GapRecord.{GapRecord}
use Rattle.gaps.specs.declared.Marked.{Marked}
use Rattle.gaps.specs.declared.Unmarked.{Unmarked}
use Rattle.gaps.specs.Marking.{answer_meaning, answer_of, mark_meaning, marked, without_record}
use Rattle.output.specs.declared.Refusal.{Refusal}

-- Two markings one after the other, neither of them refused. `Marks` says of one what it is given, the range, its answer and what it leaves.
-- A range is written as the gap that it would be.
pub record MarkedInTurn {S : Type 0} (Marks : S → Gap → Result ℕ Refusal → S → Type 0) (given : S) (first second : Gap) (answer : Result ℕ Refusal) (left : S) : Type 0 where
  pub answer_between : Result ℕ Refusal
  pub between : S
  pub one : Marks given first answer_between between
  pub one_accepted : (answer_meaning answer_between).number ≡ 0
  pub other : Marks between second answer left
  pub other_accepted : (answer_meaning answer).number ≡ 0

abbrev pub EitherOrder : {S : Type 0} → (S → Gap → Result ℕ Refusal → S → Type 0) → Type 0
EitherOrder {S} Marks =
    (given : S) (first second : Gap) (answer answer' : Result ℕ Refusal) (left left' : S) →
    MarkedInTurn Marks given first second answer left → MarkedInTurn Marks given second first answer' left' → (answer ≡ answer') × (left ≡ left')

-- By value: what `mark` promises of its result, of which the answer is one part and the record the other.
pub record ByValue (limit : ℕ) (given : GapRecord) (range : Gap) (answer : Result ℕ Refusal) (after : GapRecord) : Type 0 where
  pub result : Result Marked Unmarked
  pub promised : mark_meaning result ≡ marked limit given range.start range.end
  pub answered : answer ≡ without_record result
  pub left : after ≡ (mark_meaning result).after

-- In place: what `mark_in_place` promises of its answer and of the record that was lent.
abbrev pub InPlace : (limit : ℕ) → GapRecord → Gap → Result ℕ Refusal → GapRecord → Type 0
InPlace limit given range answer after =
    let m = marked limit given range.start range.end in (answer_meaning answer ≡ answer_of m) × (after ≡ m.after)
