-- The place is a run of bytes; its size follows by the laws of Extents.
use native.Mathlib.Omega.{arith}
use Rattle.write_items.proofs.There.{is-there}
use Rattle.check_bodies.proofs.Extents.{absent-extends, place-extends}
use Rattle.check_bodies.proofs.Places.{got-ends}
use Rattle.check_bodies.proofs.place_extent.Goals as goal

pub returns-in_err-run : goal.returns-in_err-run
returns-in_err-run c = absent-extends _ _ c.from_residual.ensures.1 c.in_err-run.ensures.result_value

pub returns : goal.returns
returns c = place-extends _ _ (is-there (got-ends c.in_ok-run.ensures.result_value)) (omega (arith, c.well_formed.0.1))
