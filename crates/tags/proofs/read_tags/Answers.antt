-- A count and the tags after it, by the law of such lists.
use Rattle.format.specs.Order.{decode_tags, decode_dword}
use Rattle.format.proofs.There.{dword-ends}
use Rattle.format.proofs.Items.{codec-tag}
use Rattle.wire.proofs.Inside.{counted-inside}
use Rattle.tags.proofs.read_tags.Goals as goal

pub returns-clause-placed : goal.returns-clause-placed
unfolding decode_tags
returns-clause-placed c =
    (counted-inside codec-tag _ c.type_inv.s decode_dword _ _ (dword-ends _ _) c.in_ok-count.ensures c.tags_from.result (c.tags_from.ensures.meaning, c.tags_from.ensures.placed)).1
