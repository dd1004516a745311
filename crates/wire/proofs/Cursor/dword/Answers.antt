-- Four bytes: they are there, or short.
use Rattle.format.proofs.There.{dword-short}
use Rattle.wire.proofs.Parts.{dword-here}
use Rattle.wire.proofs.Steps.{propagated}
use Rattle.wire.proofs.Cursor.dword.Goals as goal

pub returns-in_err-next : goal.returns-in_err-next
returns-in_err-next c =
    let start = c.args in
    rw (propagated _ c.from_residual.ensures.1, c.in_err-next.ensures.1) (dword-short start.s.now start.self.at c.in_err-next.ensures.0)

pub returns : goal.returns
returns c =
    let start = c.args in
    rw (c.quad-value.ensures, c.in_ok-next.ensures.1) (dword-here start.s.now start.self.at c.in_ok-next.ensures.0)
