-- What is copied is known once the tags are read: `copies`. Each answer follows from it by a law of Copies.
use native.Mathlib.Omega.{arith}
use Rattle.wire.proofs.Replies.{slice-bytes}
use Rattle.write_items.proofs.Answers.{missing-promised}
use Rattle.write_items.proofs.Copies.{ListCopies, copied, list-copies, no_room, over-ceiling}
use Rattle.write_items.proofs.lists.write_tag_list.Goals as goal
use Rattle.write_items.proofs.lists.write_tag_list.Goals.{In_ok-next}

copies : (c : In_ok-next) → ListCopies c.args.src.now c.args.tags c.in_ok-next.next.at
copies c =
    let src = c.args.src.now in
    list-copies src (slice-bytes src c.type_inv.src) c.args.tags (omega (arith, c.well_formed)) c.in_ok-next.ensures

pub returns-in_err-next : goal.returns-in_err-next
returns-in_err-next c = missing-promised _ _ c.from_residual.ensures.1 c.in_err-next.ensures

pub overflow_sub-size : goal.overflow_sub-size
overflow_sub-size c = (copies (goal.at.overflow_sub-size c).In_ok-next).order

pub returns-then-size-gt-TAGS_CEILING : goal.returns-then-size-gt-TAGS_CEILING
returns-then-size-gt-TAGS_CEILING c = over-ceiling (copies (goal.at.returns-then-size-gt-TAGS_CEILING c).In_ok-next) (omega (arith, c.if-size-gt-TAGS_CEILING.true))

pub returns-then-out-size : goal.returns-then-out-size
returns-then-out-size c = no_room (copies (goal.at.returns-then-out-size c).In_ok-next) (omega (arith, c.if-size-gt-TAGS_CEILING.false)) c.if-out-size.true

pub returns : goal.returns
returns c =
    let k = copies (goal.at.returns c).In_ok-next in
    copied k (omega (arith, c.if-size-gt-TAGS_CEILING.false)) c.if-out-size.false
    (rw (c.bytes_at-items.ensures, k.size) at c.put_list.ensures)
