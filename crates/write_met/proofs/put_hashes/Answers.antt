-- The count and the hashes: `after` of the output's laws.
use Rattle.format.specs.Layout.{word}
use Rattle.format.proofs.Codec.{length-little_endian}
use Rattle.output.proofs.Laws.{after}
use Rattle.write_met.proofs.put_hashes.Goals as goal

pub returns-clause-output : goal.returns-clause-output
returns-clause-output c =
    let a = c.args in
    let counted = c.put_word.ensures in
    after (word a.count) a.hashes.now _ _ _ 2 (length-little_endian 2 a.count) counted c.copy.ensures
