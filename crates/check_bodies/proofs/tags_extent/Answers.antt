-- What was read is `listed`; its size and end follow by the laws of Extents.
use native.Mathlib.Omega.{arith}
use Rattle.format.specs.Layout.{encode_tag}
use Rattle.format.specs.Rules.{ValidTag}
use Rattle.format.specs.Order.{decode_tag}
use mathlib.Core.Path.{sym}
use Rattle.wire.specs.WireAnswers.{items_in}
use Rattle.wire.proofs.Replies.{slice-bytes}
use Rattle.write_items.proofs.Listed.{Listed}
use Rattle.format.proofs.Writing.{tags-fit}
use Rattle.check_bodies.proofs.Extents.{absent-there, list-extends}
use Rattle.check_bodies.proofs.Places.{tags-listed}
use Rattle.check_bodies.proofs.tags_extent.Goals as goal
use Rattle.check_bodies.proofs.tags_extent.Goals.{In_ok-next}

list : (c : In_ok-next) → Listed decode_tag encode_tag ValidTag c.args.src.now c.args.list c.in_ok-next.next.at
list c =
    let src = c.args.src.now in
    tags-listed src (slice-bytes src c.type_inv.src) c.args.list
    (sym c.in_ok-next.ensures)

pub returns-in_err-next : goal.returns-in_err-next
returns-in_err-next c = absent-there _ _ c.from_residual.ensures.1 c.in_err-next.ensures

pub overflow_sub-size : goal.overflow_sub-size
overflow_sub-size c = (list (goal.at.overflow_sub-size c).In_ok-next).order

pub overflow_add-result : goal.overflow_add-result
overflow_add-result c = omega (arith, (list (goal.at.overflow_add-result c).In_ok-next).few, c.well_formed.0.1)

pub returns : goal.returns
returns c = list-extends (list (goal.at.returns c).In_ok-next) 4 (omega arith) (tags-fit (items_in decode_tag c.args.src.now c.args.list) (omega (arith, (list (goal.at.returns c).In_ok-next).count, c.well_formed.1), (list (goal.at.returns c).In_ok-next).valid)) (omega (arith, c.well_formed.0.1))
