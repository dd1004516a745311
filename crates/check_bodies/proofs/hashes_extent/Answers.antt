-- What was read is `listed`; its size and end follow by the laws of Extents.
use native.Mathlib.Omega.{arith}
use Rattle.format.specs.Layout.{encode_hash}
use Rattle.format.specs.Rules.{ValidHash}
use Rattle.format.specs.Order.{decode_hash}
use Rattle.wire.proofs.Replies.{slice-bytes}
use Rattle.write_items.proofs.Listed.{Listed}
use Rattle.check_bodies.proofs.Extents.{absent-extends, list-extends, list-long}
use Rattle.check_bodies.proofs.Places.{got-ends, hashes-listed}
use Rattle.check_bodies.proofs.hashes_extent.Goals as goal
use Rattle.check_bodies.proofs.hashes_extent.Goals.{In_ok-next}

list : (c : In_ok-next) → Listed decode_hash encode_hash ValidHash c.args.src.now c.args.list c.in_ok-next.next.at
list c =
    let src = c.args.src.now in
    hashes-listed src (slice-bytes src c.type_inv.src) c.args.list
    (got-ends c.in_ok-next.ensures.meaning)

pub returns-in_err-next : goal.returns-in_err-next
returns-in_err-next c = absent-extends _ _ c.from_residual.ensures.1 c.in_err-next.ensures.meaning

pub returns-then-count-gt-HASHES_MOST : goal.returns-then-count-gt-HASHES_MOST
returns-then-count-gt-HASHES_MOST c = list-long (list (goal.at.returns-then-count-gt-HASHES_MOST c).In_ok-next) (λ fit. omega (arith, (list (goal.at.returns-then-count-gt-HASHES_MOST c).In_ok-next).count, c.if-count-gt-HASHES_MOST.true))

pub overflow_sub-size : goal.overflow_sub-size
overflow_sub-size c = (list (goal.at.overflow_sub-size c).In_ok-next).order

pub overflow_add-result : goal.overflow_add-result
overflow_add-result c = omega (arith, (list (goal.at.overflow_add-result c).In_ok-next).few, c.well_formed.0.1)

pub returns : goal.returns
returns c = list-extends (list (goal.at.returns c).In_ok-next) 2 (omega arith) (omega (arith, (list (goal.at.returns c).In_ok-next).count, c.if-count-gt-HASHES_MOST.false)) (omega (arith, c.well_formed.0.1))
