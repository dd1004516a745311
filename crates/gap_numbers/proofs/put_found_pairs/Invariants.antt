-- The loop: the numbers of the first `filled` gaps are put.
use mathlib.Core.Path.{◌≡◌}
use Rattle.format.specs.Writing.{overwritten}
use Rattle.part_tags.specs.Pairs.{first_gaps}
use Rattle.gap_numbers.specs.NumberSteps.{gap_number_list}
use Rattle.gap_numbers.proofs.put_found_pairs.Given as goal

abbrev pub invariant-loop-filled : goal.invariant-loop-filled
invariant-loop-filled l = (l.out ≡ overwritten (gap_number_list (first_gaps l.s l.filled l.starts)) l.initial.out)
