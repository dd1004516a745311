-- The parts are put one after the other: `then` of Puts.
use Rattle.write_items.proofs.Puts.{puts, then}
use Rattle.format.proofs.Codec.{length-little_endian}
use Rattle.format.specs.Layout.{byte}
use Rattle.write_bodies.proofs.put_extended_status.Goals as goal

pub returns : goal.returns
returns c =
    let p = c.args.status in
    let first = puts (byte p.first) 1 (length-little_endian 1 _) c.put_byte.ensures in
    let second = puts (byte p.second) 1 (length-little_endian 1 _) c.put_byte-2.ensures in
    let third = puts (byte 0xAA) 1 (length-little_endian 1 _) c.put_byte-3.ensures in
    let fourth = puts (byte 0x5A) 1 (length-little_endian 1 _) c.put_byte-4.ensures in
    then (then (then (then first second) third) fourth) c.put_triple-wrote.ensures
