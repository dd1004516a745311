-- What was read is `listed`; its size and end follow by the laws of Extents.
use native.Mathlib.Omega.{arith}
use Rattle.format.specs.Layout.{encode_record}
use Rattle.format.specs.Rules.{ValidRecord}
use Rattle.format.specs.Order.{decode_record}
use Rattle.wire.specs.WireAnswers.{items_in}
use Rattle.wire.proofs.Replies.{slice-bytes}
use Rattle.write_items.proofs.Listed.{Listed}
use Rattle.check_bodies.proofs.Extents.{absent-extends, list-extends, records-fit}
use Rattle.check_bodies.proofs.Places.{got-ends, records-listed}
use Rattle.check_bodies.proofs.records_extent.Goals as goal
use Rattle.check_bodies.proofs.records_extent.Goals.{In_ok-next}

list : (c : In_ok-next) → Listed decode_record encode_record ValidRecord c.args.src.now c.args.list c.in_ok-next.next.at
list c =
    let src = c.args.src.now in
    records-listed src (slice-bytes src c.type_inv.src) c.args.list
    (got-ends c.in_ok-next.ensures.meaning)

pub returns-in_err-next : goal.returns-in_err-next
returns-in_err-next c = absent-extends _ _ c.from_residual.ensures.1 c.in_err-next.ensures.meaning

pub overflow_sub-size : goal.overflow_sub-size
overflow_sub-size c = (list (goal.at.overflow_sub-size c).In_ok-next).order

pub overflow_add-result : goal.overflow_add-result
overflow_add-result c = omega (arith, (list (goal.at.overflow_add-result c).In_ok-next).few, c.well_formed.0.1)

pub returns : goal.returns
returns c = list-extends (list (goal.at.returns c).In_ok-next) 4 (omega arith) (omega (arith, (list (goal.at.returns c).In_ok-next).count, c.well_formed.1), records-fit (items_in decode_record c.args.src.now c.args.list) (list (goal.at.returns c).In_ok-next).valid) (omega (arith, c.well_formed.0.1))
