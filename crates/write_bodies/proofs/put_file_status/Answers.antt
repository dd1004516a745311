-- The parts are put one after the other: `then` of Puts.
use Rattle.write_items.proofs.Puts.{puts, then}
use Rattle.format.proofs.Codec.{length-little_endian}
use Rattle.format.specs.Layout.{word}
use Rattle.write_bodies.proofs.put_file_status.Goals as goal

pub returns : goal.returns
returns c =
    then
    (then c.put_run-first.ensures (puts (word c.args.status.parts) 2 (length-little_endian 2 _) c.put_word.ensures))
    c.put_run-wrote.ensures
