-- Two ranges may be marked over lent numbers in either order (02, No. 12), as gaps' specs/EitherOrder says of any way to mark: all the
-- numbers are equal, those after the record too. proofs/EitherOrder shows it.
use Rattle.std.specs.Prelude.{List, ℕ, Result}
use Rattle.format.specs.Gaps.{Gap, size_limit}
use Rattle.gaps.specs.Marking.{answer_meaning, marked}
use Rattle.gap_numbers.specs.Numbers.{MarksNumbers, record_in}
use Rattle.output.specs.declared.Refusal.{Refusal}

-- Over numbers: what `mark_numbers` promises of its answer and of the numbers that it leaves.
abbrev pub OverNumbers : List ℕ → Gap → Result ℕ Refusal → List ℕ → Type 0
OverNumbers given range answer left = MarksNumbers (marked size_limit (record_in given) range.start range.end) (answer_meaning answer) given left
