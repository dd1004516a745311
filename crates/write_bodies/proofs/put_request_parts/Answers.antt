-- The parts are put one after the other: `then` of Puts.
use Rattle.write_items.proofs.Puts.{then}
use Rattle.write_bodies.proofs.put_request_parts.Goals as goal

pub returns : goal.returns
returns c = then (then c.put_run-first.ensures c.put_triple-second.ensures) c.put_triple-wrote.ensures
