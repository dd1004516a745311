use Rattle.write_items.proofs.Puts.{puts, then}
use Rattle.format.proofs.Codec.{length-little_endian}
use Rattle.format.specs.Layout.{byte}
use Rattle.write_bodies.proofs.put_hello.Goals as goal

pub returns : goal.returns
returns c = then (puts (byte 0x10) 1 (length-little_endian 1 _) c.put_byte.ensures) c.put_record_address-wrote.ensures
