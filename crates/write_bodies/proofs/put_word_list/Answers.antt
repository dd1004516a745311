-- The count and the run of the items: `then` of Puts.
use Rattle.write_items.proofs.Puts.{puts, then}
use Rattle.format.proofs.Codec.{length-little_endian}
use Rattle.format.specs.Layout.{word}
use Rattle.write_bodies.proofs.put_word_list.Goals as goal

pub returns : goal.returns
returns c =
    let counted = rw c.word_count-count.ensures at c.put_word.ensures in
    then (puts (word c.args.list.count) 2 (length-little_endian 2 _) counted) c.put_run-wrote.ensures
