use mathlib.Core.Path.{◌∙◌}
use Rattle.format.proofs.Codec.{codec-run}
use Rattle.format.proofs.Writing.{run-needed}
use Rattle.write_met.proofs.Lists.{list-after, list-ends}
use Rattle.write_part.proofs.areas.block_hashes_length.Goals as goal

pub length_from-requires : goal.length_from-requires
length_from-requires c =
    let a = c.args in
    list-after (codec-run 8) (run-needed 8) a.s.now c.type_inv.s a.list c.block_hashes_from.result c.block_hashes_from.ensures.meaning

pub returns : goal.returns
returns c =
    let a = c.args in
    c.length_from.ensures
    ∙ list-ends (codec-run 8) (run-needed 8) a.s.now c.type_inv.s a.list c.block_hashes_from.result c.block_hashes_from.ensures.meaning
