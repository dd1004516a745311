-- Two bytes: they are there, or short.
use Rattle.wire.proofs.Steps.{propagated}
use Rattle.format.proofs.There.{word-there, word-short}
use Rattle.wire.proofs.Cursor.word.Goals as goal

pub returns-in_err-next : goal.returns-in_err-next
returns-in_err-next c =
    let start = c.args in
    rw (propagated _ c.from_residual.ensures.1, c.in_err-next.ensures.1) (word-short start.s.now start.self.at c.in_err-next.ensures.0)

pub returns : goal.returns
returns c =
    let start = c.args in
    cc (c.pair-value.ensures, c.in_ok-next.ensures.1, word-there start.s.now start.self.at c.in_ok-next.ensures.0)
