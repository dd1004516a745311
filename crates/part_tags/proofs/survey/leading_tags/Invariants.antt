-- The loop: the tags skipped so far are no gap tags.
use Rattle.part_tags.proofs.Ranges.{Leads}
use Rattle.part_tags.proofs.survey.leading_tags.Given as goal

abbrev pub invariant-loop-i : goal.invariant-loop-i
invariant-loop-i l = Leads l.s l.at l.count l.sizes l.next l.i
