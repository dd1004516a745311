-- The parts are put one after the other: `then` of Puts.
use Rattle.write_items.proofs.Puts.{then}
use Rattle.write_bodies.proofs.put_sending_part.Goals as goal

pub returns : goal.returns
returns c = then (then c.put_run-first.ensures c.put_two_dwords-second.ensures) c.put_run-wrote.ensures
