-- The list ends where the tests tell it; where they do not, tag by tag.
use mathlib.Core.Path.{sym}
use Rattle.format.specs.Decoding.{decode_many}
use Rattle.format.specs.Order.{decode_tag}
use Rattle.format.proofs.Many.{ends-items}
use Rattle.tags.proofs.Skips.{told}
use Rattle.tags.proofs.tags_from.Goals as goal

pub returns-clause-meaning : goal.returns-clause-meaning
returns-clause-meaning c =
    let start = c.args in
    let end = sym (told c.tags_end-end.ensures c.if-end-eq0.false) in
    ends-items (decode_many start.count decode_tag start.s.now start.first.at) _ end
