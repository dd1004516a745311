-- The hash is there or not; its size follows by the laws of Extents.
use Rattle.write_items.proofs.There.{is-there}
use Rattle.check_bodies.proofs.Extents.{absent-extends, hash-extends}
use Rattle.check_bodies.proofs.Places.{got-ends}
use Rattle.check_bodies.proofs.hash_extent.Goals as goal

pub returns-in_err-hash : goal.returns-in_err-hash
returns-in_err-hash c = absent-extends _ _ c.from_residual.ensures.1 c.in_err-hash.ensures

pub returns : goal.returns
returns c = hash-extends _ _ (is-there (got-ends c.in_ok-hash.ensures))
