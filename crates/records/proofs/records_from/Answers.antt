-- Each turn skips one record: by its end where the tests tell it, else by reading it.
use Rattle.format.specs.Order.{decode_record}
use Rattle.wire.proofs.Loops.{finishes, goes_on, goes_over, refuses}
use Rattle.tags.proofs.Skips.{told}
use Rattle.wire.proofs.Steps.{propagated}
use Rattle.records.proofs.records_from.Goals as goal

pub loop-preserved-then-next-ne0 : goal.loop-preserved-then-next-ne0
loop-preserved-then-next-ne0 c = search (goes_over decode_record, told)

pub returns-in_err-after-clause-meaning : goal.returns-in_err-after-clause-meaning
returns-in_err-after-clause-meaning c =
    rw ((propagated _ c.from_residual.ensures.1)) ((refuses decode_record _ _ _ _ _ c.loop-test.true c.loop.invariant c.in_err-after.ensures.meaning).0)

pub loop-preserved : goal.loop-preserved
loop-preserved c = let read = c.in_ok-after.ensures.meaning in search (goes_on decode_record, read)

pub returns-clause-meaning : goal.returns-clause-meaning
returns-clause-meaning c = (finishes decode_record _ _ _ _ _ c.loop-test.false c.loop.invariant).0

pub returns-clause-placed : goal.returns-clause-placed
returns-clause-placed c = (finishes decode_record _ _ _ _ _ c.loop-test.false c.loop.invariant).1
