use Rattle.write_items.proofs.Puts.{puts, then}
use Rattle.format.proofs.Codec.{length-little_endian}
use Rattle.format.specs.Layout.{dword}
use Rattle.write_bodies.proofs.put_two_dwords.Goals as goal

pub returns : goal.returns
returns c =
    then (puts (dword c.args.first) 4 (length-little_endian 4 _) c.put_dword.ensures)
    (puts (dword c.args.second) 4 (length-little_endian 4 _) c.put_dword-2.ensures)
