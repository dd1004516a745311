-- The count and the run of the items: `then` of Puts.
use Rattle.write_items.proofs.Puts.{puts, then}
use Rattle.format.proofs.Codec.{length-little_endian}
use Rattle.format.specs.Layout.{byte}
use Rattle.write_bodies.proofs.put_byte_list.Goals as goal

pub returns : goal.returns
returns c =
    let counted = rw c.byte_count-count.ensures at c.put_byte.ensures in
    then (puts (byte c.args.list.count) 1 (length-little_endian 1 _) counted) c.put_run-wrote.ensures
