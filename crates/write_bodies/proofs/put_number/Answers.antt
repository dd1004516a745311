use Rattle.write_items.proofs.Puts.{puts}
use Rattle.format.proofs.Codec.{length-little_endian}
use Rattle.format.specs.Layout.{dword}
use Rattle.write_bodies.proofs.put_number.Goals as goal

pub returns : goal.returns
returns c = puts (dword c.args.number) 4 (length-little_endian 4 _) c.put_dword.ensures
