-- The hash that was read lies inside the bytes.
use Rattle.wire.proofs.Inside.{hash-inside}
use Rattle.met.proofs.part.read_part_e1.Goals as goal

pub returns-clause-placed : goal.returns-clause-placed
returns-clause-placed c = (hash-inside _ _ _ c.in_ok-hash.ensures, (c.in_ok-tags.ensures.placed, c.in_ok-blocks.ensures.placed))
