-- The lists are equal exactly when the tags from the next ones on are (`Compared` of PlainTags), whatever lists the loop began with.
use mathlib.Core.List.{List}
use Rattle.format.specs.Messages.{Tag}
use Rattle.merge_compare.specs.Compared.{NextFound}
use Rattle.merge_compare.proofs.PlainTags.{Compared, to_go}
use Rattle.merge_compare.proofs.same_by_tag.Given as goal

abbrev pub invariant-loop-next : goal.invariant-loop-next
invariant-loop-next l = (all others : List Tag) → NextFound l.s all l.initial.next → NextFound l.t others l.initial.other_next → Compared l.s l.t all others l.next l.other_next

abbrev pub decreases-loop-next : goal.decreases-loop-next
decreases-loop-next l = to_go l.next
