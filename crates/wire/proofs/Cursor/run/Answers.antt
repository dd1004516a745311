-- A run of bytes: it is there, or short.
use Rattle.format.proofs.There.{run-there, run_short}
use Rattle.wire.proofs.Steps.{propagated}
use Rattle.wire.proofs.Cursor.run.Goals as goal

pub returns-in_err-next-clause-result_value : goal.returns-in_err-next-clause-result_value
returns-in_err-next-clause-result_value c =
    let start = c.args in
    rw (propagated _ c.from_residual.ensures.1, c.in_err-next.ensures.1) (run_short start.s.now start.self.at start.len c.in_err-next.ensures.0)

pub returns-clause-result_value : goal.returns-clause-result_value
returns-clause-result_value c =
    let start = c.args in
    cc (c.in_ok-next.ensures.1, run-there start.s.now start.self.at start.len c.in_ok-next.ensures.0)
