-- Each turn reads one address and keeps none (`items-read` of Loops).
use Rattle.std.proofs.Common.{rules}
use Rattle.format.specs.Order.{decode_address}
use Rattle.records.specs.RecordAnswers.{address_of}
use Rattle.wire.proofs.Loops.{bare-ended, items-read}
use Rattle.records.proofs.address_by_address.Goals as goal

pub returns-clause-meaning : goal.returns-clause-meaning
returns-clause-meaning c =
    (items-read decode_address _ _ _ _ (c.items_from.ensures.ended _ _ (λ at answer read. bare-ended address_of answer (search rules))) c.items_from.ensures.list).0

pub returns-clause-placed : goal.returns-clause-placed
returns-clause-placed c =
    (items-read decode_address _ _ _ _ (c.items_from.ensures.ended _ _ (λ at answer read. bare-ended address_of answer (search rules))) c.items_from.ensures.list).1
