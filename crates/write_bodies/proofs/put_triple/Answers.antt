use Rattle.write_items.proofs.Puts.{puts, then}
use Rattle.format.proofs.Codec.{length-little_endian}
use Rattle.format.specs.Layout.{dword}
use Rattle.write_bodies.proofs.put_triple.Goals as goal

pub returns : goal.returns
returns c = then (puts (dword c.args.triple.first) 4 (length-little_endian 4 _) c.put_dword.ensures) c.put_two_dwords-wrote.ensures
