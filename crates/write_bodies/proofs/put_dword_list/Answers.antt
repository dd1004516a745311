-- The count and the run of the items: `then` of Puts.
use Rattle.write_items.proofs.Puts.{puts, then}
use Rattle.format.proofs.Codec.{length-little_endian}
use Rattle.format.specs.Layout.{dword}
use Rattle.write_bodies.proofs.put_dword_list.Goals as goal

pub returns : goal.returns
returns c = then (puts (dword c.args.list.count) 4 (length-little_endian 4 _) c.put_dword.ensures) c.put_run-wrote.ensures
