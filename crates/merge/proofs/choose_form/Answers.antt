-- The first comparison that succeeds names the winner; where none does, both changed it.
use Rattle.merge.proofs.Choosing.{differs}
use Rattle.format.specs.Merging.{agreed, conflict, first_changed, second_changed}
use mathlib.Core.Path.{sym, ◌∙◌}
use Rattle.merge.proofs.choose_form.Goals as goal

pub is_same_form-requires : goal.is_same_form-requires
is_same_form-requires c = let e = c.requires in (e.1, e.2, e.3.1 ∙ sym e.3.0)

pub returns-then-is_same_form : goal.returns-then-is_same_form
returns-then-is_same_form c = agreed (c.is_same_form.ensures.0 c.if-is_same_form.true)

pub is_same_form-requires-2 : goal.is_same_form-requires-2
is_same_form-requires-2 c = let e = c.requires in (e.2, e.0, sym e.3.1)

pub returns-then-is_same_form-2 : goal.returns-then-is_same_form-2
returns-then-is_same_form-2 c = first_changed (c.is_same_form-2.ensures.0 c.if-is_same_form-2.true)

pub is_same_form-requires-3 : goal.is_same_form-requires-3
is_same_form-requires-3 c = let e = c.requires in (e.1, e.0, sym e.3.0)

pub returns-then-is_same_form-3 : goal.returns-then-is_same_form-3
returns-then-is_same_form-3 c = second_changed (c.is_same_form-3.ensures.0 c.if-is_same_form-3.true)

pub returns : goal.returns
returns c =
    conflict
    (differs _ c.is_same_form.ensures c.if-is_same_form.false)
    (differs _ c.is_same_form-2.ensures c.if-is_same_form-2.false)
    (differs _ c.is_same_form-3.ensures c.if-is_same_form-3.false)
