-- After some gaps what the range leaves of these is in the record made (`Made` of MarkingSteps).
use native.Mathlib.Omega.{arith}
use mathlib.Core.Path.{sym, ◌∙◌}
use Rattle.format.specs.Gaps.{subtract}
use Rattle.gaps.proofs.MarkingSteps.{made_more, made-full, made_all}
use Rattle.gaps.proofs.subtract.Goals as goal

pub loop-gap-init : goal.loop-gap-init
unfolding subtract
loop-gap-init c = record { holds = c.none_missing-made.ensures; few = omega arith }

pub returns-in_err-made : goal.returns-in_err-made
returns-in_err-made c =
    let a = c.args in
    let m = c.loop-gap in
    c.from_residual.ensures ∙ sym (made-full a.given a.start a.end m.gap-index m.made m.invariant (omega arith) (sym c.in_err-made.ensures))

pub loop-gap-preserved : goal.loop-gap-preserved
loop-gap-preserved c =
    let a = c.args in
    let m = c.loop-gap in
    made_more a.given a.start a.end m.gap-index m.made m.invariant (omega arith) _ (sym c.in_ok-made.ensures)

pub returns : goal.returns
returns c =
    let a = c.args in
    let m = c.loop-gap in
    sym (made_all a.given a.start a.end m.gap-index m.made m.invariant (omega arith))
