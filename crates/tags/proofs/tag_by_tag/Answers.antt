-- Each turn reads one tag and keeps none (`items-read` of Loops).
use Rattle.std.proofs.Common.{rules}
use Rattle.format.specs.Order.{decode_tag}
use Rattle.tags.specs.TagAnswers.{tag_of}
use Rattle.wire.proofs.Loops.{bare-ended, items-read}
use Rattle.tags.proofs.tag_by_tag.Goals as goal

pub returns-clause-meaning : goal.returns-clause-meaning
returns-clause-meaning c =
    (items-read decode_tag _ _ _ _ (c.items_from.ensures.ended _ _ (λ at answer read. bare-ended (tag_of c.args.s.now) answer (search rules))) c.items_from.ensures.list).0

pub returns-clause-placed : goal.returns-clause-placed
returns-clause-placed c =
    (items-read decode_tag _ _ _ _ (c.items_from.ensures.ended _ _ (λ at answer read. bare-ended (tag_of c.args.s.now) answer (search rules))) c.items_from.ensures.list).1
