-- The loop: the tags skipped so far up to the last gap tag, and those after it.
use Rattle.part_tags.proofs.Ranges.{Ranges}
use Rattle.part_tags.proofs.survey.gap_range.Given as goal

abbrev pub invariant-loop-i : goal.invariant-loop-i
invariant-loop-i l = Ranges l.s l.at l.count l.initial.sizes l.sizes l.gap_end l.gap_count l.next l.i
