-- Sixteen bytes: they are there, or short.
use Rattle.format.specs.Order.{decode_hash}
use Rattle.format.proofs.There.{run-there, run_short}
use Rattle.wire.proofs.Steps.{propagated}
use Rattle.wire.proofs.Cursor.hash.Goals as goal

pub returns-in_err-next : goal.returns-in_err-next
unfolding decode_hash
returns-in_err-next c =
    let start = c.args in
    rw (propagated _ c.from_residual.ensures.1, c.in_err-next.ensures.1) (run_short start.s.now start.self.at 16 c.in_err-next.ensures.0)

pub returns : goal.returns
unfolding decode_hash
returns c =
    let start = c.args in
    rw c.in_ok-next.ensures.1 (run-there start.s.now start.self.at 16 c.in_ok-next.ensures.0)
