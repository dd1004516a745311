-- Each arm calls the reader of its shape, whose contract is the answer.
use mathlib.Core.Path.{refl}
use Rattle.format.specs.PacketOrder.{decode_body}
use Rattle.bodies.proofs.read_body.Goals as goal

pub returns-in-Nothing-clause-meaning : goal.returns-in-Nothing-clause-meaning
unfolding decode_body
returns-in-Nothing-clause-meaning c = rw c.in-Nothing.is refl
