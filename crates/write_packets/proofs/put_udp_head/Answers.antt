use Rattle.format.specs.Layout.{byte}
use Rattle.format.proofs.Codec.{length-little_endian}
use Rattle.output.proofs.Laws.{after}
use Rattle.write_packets.proofs.put_udp_head.Goals as goal

pub returns : goal.returns
returns c =
    let a = c.args in
    after (byte a.opening) (byte a.opcode) _ _ _ 1 (length-little_endian 1 a.opening) c.put_byte.ensures c.put_byte-2.ensures
