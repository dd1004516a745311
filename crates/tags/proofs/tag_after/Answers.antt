-- By the end that the tests tell, else by reading the tag.
use Rattle.format.specs.Order.{decode_tag}
use Rattle.tags.proofs.Skips.{end-is-after}
use Rattle.tags.proofs.tag_after.Goals as goal

pub returns-then-end-ne0 : goal.returns-then-end-ne0
returns-then-end-ne0 c =
    let start = c.args in
    end-is-after (decode_tag start.s.now start.at) c.tag_end-end.ensures c.if-end-ne0.true
