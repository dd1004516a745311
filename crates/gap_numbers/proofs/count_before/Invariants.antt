-- The first i gaps end by the start of the range (`end-by-next` of Loops).
use Rattle.gap_numbers.specs.NumberSteps.{EndBy}
use Rattle.gap_numbers.proofs.count_before.Given as goal

abbrev pub invariant-loop-i : goal.invariant-loop-i
invariant-loop-i l = EndBy l.numbers l.start l.i
