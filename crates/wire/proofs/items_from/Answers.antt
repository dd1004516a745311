-- Each turn reads one item and keeps none: the laws of Loops, for any decoder that ends where the reader does.
use mathlib.Core.Path.{refl, sym}
use Rattle.format.specs.Decoding.{ends}
use Rattle.wire.proofs.Loops.{begins, goes_on, refuses, finishes}
use Rattle.wire.proofs.Steps.{propagated}
use Rattle.wire.proofs.items_from.Goals as goal

pub loop-init : goal.loop-init
loop-init g c = λ d s reads. begins d s _ _

pub loop-preserved : goal.loop-preserved
loop-preserved g c = λ d s reads. goes_on d s _ _ _ _ c.loop-test.true (c.loop.invariant d s reads) (reads _ _ c.in_ok-after.ensures)

pub returns-in_err-after-clause-ended : goal.returns-in_err-after-clause-ended
unfolding ends
returns-in_err-after-clause-ended g c = λ d s reads.
    let refusal = refuses d s _ _ _ _ c.loop-test.true (c.loop.invariant d s reads) (reads _ _ c.in_err-after.ensures) in
    rw (propagated _ c.from_residual.ensures.1, ← refusal.0) refl

pub returns-clause-ended : goal.returns-clause-ended
returns-clause-ended g c = λ d s reads. sym (finishes d s _ _ _ _ c.loop-test.false (c.loop.invariant d s reads)).1.0
