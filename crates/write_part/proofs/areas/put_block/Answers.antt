-- A mark and its hashes: `after` of the output's laws.
use Rattle.format.specs.Layout.{byte}
use Rattle.format.proofs.Codec.{length-little_endian}
use Rattle.output.proofs.Laws.{after}
use Rattle.write_part.proofs.areas.put_block.Goals as goal

pub returns-clause-output : goal.returns-clause-output
returns-clause-output c =
    let a = c.args in
    after (byte 1) a.hashes.now _ _ _ 1 (length-little_endian 1 1) c.put_byte.ensures c.copy.ensures
