use Rattle.write_items.proofs.Puts.{puts, then}
use Rattle.format.proofs.Codec.{length-little_endian}
use Rattle.format.specs.Layout.{dword, encode_address, word}
use Rattle.write_bodies.proofs.put_address.Goals as goal

pub returns : goal.returns
unfolding encode_address
returns c =
    then (puts (dword c.args.address.ip) 4 (length-little_endian 4 _) c.put_dword.ensures)
    (puts (word c.args.address.port) 2 (length-little_endian 2 _) c.put_word.ensures)
