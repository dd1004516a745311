use Rattle.write_items.proofs.Puts.{puts, then}
use Rattle.format.proofs.Codec.{length-little_endian}
use Rattle.format.specs.Layout.{dword}
use Rattle.write_bodies.proofs.put_address_dword.Goals as goal

pub returns : goal.returns
returns c = then c.put_address-at.ensures (puts (dword c.args.number) 4 (length-little_endian 4 _) c.put_dword.ensures)
