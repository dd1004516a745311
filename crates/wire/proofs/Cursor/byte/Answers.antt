-- A byte is there, or short.
use Rattle.wire.proofs.Steps.{propagated}
use Rattle.format.proofs.There.{byte-there, byte-short}
use Rattle.wire.proofs.Cursor.byte.Goals as goal

pub returns-in_err-next : goal.returns-in_err-next
returns-in_err-next c =
    let start = c.args in
    rw (propagated _ c.from_residual.ensures.1, c.in_err-next.ensures.1) (byte-short start.s.now start.self.at c.in_err-next.ensures.0)

pub returns : goal.returns
returns c =
    let start = c.args in
    rw c.in_ok-next.ensures.1 (byte-there start.s.now start.self.at c.in_ok-next.ensures.0)
