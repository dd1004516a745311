-- More than 64 gaps, and the new record, by the laws of Marking.
use mathlib.Core.Path.{sym, ◌∙◌}
use Rattle.gaps.proofs.Marking.{markable-exactly, marked-full, after-ordered, marked-room}
use Rattle.gaps.proofs.mark.Goals as goal

pub subtract-requires : goal.subtract-requires
subtract-requires c = ((markable-exactly _ _ _ _).0 (sym c.if-not-is_markable.ensures)).counted

pub returns-in_default : goal.returns-in_default
returns-in_default c = c.refused-in_default.ensures ∙ sym (marked-full _ _ _ _ (sym c.if-not-is_markable.ensures) (sym c.in_default.ensures))

pub sum_lengths-missing-requires : goal.sum_lengths-missing-requires
sum_lengths-missing-requires c = after-ordered _ _ _ _ (sym c.if-not-is_markable.ensures) _ (sym c.in-Some.ensures)

pub returns : goal.returns
returns c = sym (marked-room _ _ _ _ (sym c.if-not-is_markable.ensures) _ (sym c.in-Some.ensures) _ c.sum_lengths-missing.ensures)
