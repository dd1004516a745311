use Rattle.write_items.proofs.Puts.{puts, then}
use Rattle.format.proofs.Codec.{length-little_endian}
use Rattle.format.specs.Layout.{byte}
use Rattle.write_bodies.proofs.put_records_flag.Goals as goal

pub returns : goal.returns
returns c = then c.put_dword_list-at.ensures (puts (byte c.args.flag) 1 (length-little_endian 1 _) c.put_byte.ensures)
