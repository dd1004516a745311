use mathlib.Core.Path.{◌∙◌}
use Rattle.format.proofs.Items.{codec-hash}
use Rattle.format.proofs.Writing.{hash-needed}
use Rattle.write_met.proofs.Lists.{list-after, list-ends}
use Rattle.write_met.proofs.hashes_length.Goals as goal

pub length_from-requires : goal.length_from-requires
length_from-requires c =
    let a = c.args in
    list-after codec-hash hash-needed a.s.now c.type_inv.s a.list c.hashes_from.result c.hashes_from.ensures.meaning

pub returns : goal.returns
returns c =
    let a = c.args in
    c.length_from.ensures
    ∙ list-ends codec-hash hash-needed a.s.now c.type_inv.s a.list c.hashes_from.result c.hashes_from.ensures.meaning
