-- The opening byte and the entry: `after` of the output's laws.
use Rattle.format.specs.Layout.{byte, encode_file_entry, encode_part_met}
use Rattle.format.proofs.Codec.{length-little_endian}
use Rattle.met.specs.MetAnswers.{file_entry_in}
use Rattle.output.proofs.Laws.{after}
use Rattle.write_part.proofs.part_e0.put_part_e0.Goals as goal

pub returns-clause-output : goal.returns-clause-output
unfolding encode_part_met
returns-clause-output c =
    let a = c.args in
    after (byte 0xE0) (encode_file_entry (file_entry_in a.src.now a.file)) _ _ _ 1 (length-little_endian 1 0xE0) c.put_byte.ensures c.put_file_entry-wrote.ensures.output
