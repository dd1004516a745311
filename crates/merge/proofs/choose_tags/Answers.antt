-- The first comparison that succeeds names the winner; where none does, both changed it.
use Rattle.merge.proofs.Choosing.{differs}
use Rattle.format.specs.Merging.{agreed, conflict, first_changed, second_changed}
use Rattle.merge.proofs.choose_tags.Goals as goal

pub returns-then-has_same_tags : goal.returns-then-has_same_tags
returns-then-has_same_tags c = agreed (c.has_same_tags.ensures.0 c.if-has_same_tags.true)

pub returns-then-has_same_tags-2 : goal.returns-then-has_same_tags-2
returns-then-has_same_tags-2 c = first_changed (c.has_same_tags-2.ensures.0 c.if-has_same_tags-2.true)

pub returns-then-has_same_tags-3 : goal.returns-then-has_same_tags-3
returns-then-has_same_tags-3 c = second_changed (c.has_same_tags-3.ensures.0 c.if-has_same_tags-3.true)

pub returns : goal.returns
returns c =
    conflict
    (differs _ c.has_same_tags.ensures c.if-has_same_tags.false)
    (differs _ c.has_same_tags-2.ensures c.if-has_same_tags-2.false)
    (differs _ c.has_same_tags-3.ensures c.if-has_same_tags-3.false)
