-- A hash that was read lies inside.
use Rattle.wire.proofs.Inside.{hash-inside}
use Rattle.bodies.proofs.ranges.read_request_parts.Goals as goal

pub returns-clause-placed : goal.returns-clause-placed
returns-clause-placed c = hash-inside _ _ _ c.in_ok-hash.ensures
