-- What was read is `listed`; its size and end follow by the laws of Extents.
use native.Mathlib.Omega.{arith}
use Rattle.wire.proofs.Replies.{slice-bytes}
use Rattle.check_bodies.proofs.Extents.{absent-extends, query-extends}
use Rattle.check_bodies.proofs.Places.{QueryListed, got-ends, query-listed}
use Rattle.check_bodies.proofs.query_extent.Goals as goal
use Rattle.check_bodies.proofs.query_extent.Goals.{In_ok-next}

query : (c : In_ok-next) → QueryListed c.args.src.now c.args.q c.in_ok-next.next.at
query c =
    let src = c.args.src.now in
    query-listed src (slice-bytes src c.type_inv.src) c.args.q
    (got-ends c.in_ok-next.ensures.meaning)

pub returns-in_err-next : goal.returns-in_err-next
returns-in_err-next c = absent-extends _ _ c.from_residual.ensures.1 c.in_err-next.ensures.meaning

pub overflow_sub-size : goal.overflow_sub-size
overflow_sub-size c = (query (goal.at.overflow_sub-size c).In_ok-next).order

pub returns : goal.returns
returns c = query-extends _ _ _ (query (goal.at.returns c).In_ok-next) (omega (arith, c.well_formed.0.1))
