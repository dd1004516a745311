-- The data go up to the end.
use mathlib.Core.Path.{refl}
use Rattle.format.specs.Decoding.{decode_tail}
use Rattle.format.specs.PacketOrder.{decode_body, decode_sending_part}
use Rattle.wire.proofs.Inside.{hash-inside}
use Rattle.wire.proofs.Parts.{to_the_end}
use Rattle.bodies.proofs.Data.{data-inside}
use Rattle.bodies.proofs.ranges.read_sending_part.Goals as goal

pub returns-clause-meaning : goal.returns-clause-meaning
unfolding decode_body decode_sending_part decode_tail
returns-clause-meaning c = rw (← c.in_ok-hash.ensures, ← c.in_ok-start.ensures, c.remaining-len.ensures, to_the_end) refl

pub returns-clause-placed : goal.returns-clause-placed
returns-clause-placed c = rw c.remaining-len.ensures (hash-inside _ _ _ c.in_ok-hash.ensures, data-inside _ _ c.in_ok-start.ensures)
