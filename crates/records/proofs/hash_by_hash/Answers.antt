-- Each turn reads one hash and keeps none (`items-read` of Loops).
use Rattle.std.proofs.Common.{rules}
use Rattle.format.specs.Order.{decode_hash}
use Rattle.wire.specs.WireAnswers.{hash_at}
use Rattle.wire.proofs.Loops.{bare-ended, items-read}
use Rattle.records.proofs.hash_by_hash.Goals as goal

pub returns-clause-meaning : goal.returns-clause-meaning
returns-clause-meaning c =
    (items-read decode_hash _ _ _ _ (c.items_from.ensures.ended _ _ (λ at answer read. bare-ended (hash_at c.args.s.now) answer (search rules))) c.items_from.ensures.list).0

pub returns-clause-placed : goal.returns-clause-placed
returns-clause-placed c =
    (items-read decode_hash _ _ _ _ (c.items_from.ensures.ended _ _ (λ at answer read. bare-ended (hash_at c.args.s.now) answer (search rules))) c.items_from.ensures.list).1
