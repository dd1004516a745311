-- The loop: the record is lawful if the gaps from there on keep the rule, the next of them starting at `low` or later.
use native.Mathlib.Omega.{arith}
use mathlib.Core.Path.{refl, sym, ◌∙◌}
use lib.ListN.{take}
use Rattle.format.specs.Gaps.{ordered, size_limit}
use Rattle.format.proofs.Gaps.{follows-true}
use Rattle.gaps.proofs.GapRecords.{next-ordered, no-place-left, lawful-by-gaps}
use Rattle.gaps.proofs.is_lawful.Goals as goal

pub loop-gap-init : goal.loop-gap-init
loop-gap-init c = lawful-by-gaps size_limit c.args.given (omega arith) (omega arith)

pub returns-then-not-may_follow : goal.returns-then-not-may_follow
returns-then-not-may_follow c =
    let g = c.args.given in
    rw (c.loop-gap.invariant, next-ordered (take g.count g.gaps) c.loop-gap.gap-index (omega arith), ← c.if-not-may_follow.ensures) refl

pub overflow_add-low : goal.overflow_add-low
overflow_add-low c = omega (arith, follows-true _ _ _ (sym c.if-not-may_follow.ensures))

pub loop-gap-preserved : goal.loop-gap-preserved
loop-gap-preserved c = c.loop-gap.invariant ∙ next-ordered _ c.loop-gap.gap-index (omega arith) _ _ ∙ rw (← c.if-not-may_follow.ensures) refl

pub returns : goal.returns
unfolding ordered
returns c =
    let g = c.args.given in
    rw (c.loop-gap.invariant, no-place-left (take g.count g.gaps) c.loop-gap.gap-index (omega arith)) refl
