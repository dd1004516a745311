use native.Mathlib.Omega.{arith}
use Rattle.output.proofs.Laws.{stores, byte-bytes}
use Rattle.output.proofs.put_byte.Goals as goal

pub returns : goal.returns
returns c = stores _ (byte-bytes c.args.v (omega arith)) (omega arith)
