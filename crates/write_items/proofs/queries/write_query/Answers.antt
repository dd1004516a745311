-- What is copied is known once the query is read: `query-copies`. Each answer follows from it by a law of Copies.
use mathlib.Core.Path.{refl}
use Rattle.wire.proofs.Replies.{slice-bytes}
use Rattle.write_items.proofs.There.{ends-refused}
use Rattle.write_items.proofs.Answers.{missing-promised}
use Rattle.write_items.proofs.Copies.{QueryCopies, copied, no_room, over-ceiling, query-copies}
use Rattle.write_items.proofs.queries.write_query.Goals as goal
use Rattle.write_items.proofs.queries.write_query.Goals.{In_ok-next}

copies : (c : In_ok-next) → QueryCopies c.args.src.now c.args.q c.in_ok-next.next.at
copies c =
    let src = c.args.src.now in
    query-copies src (slice-bytes src c.type_inv.src) c.args.q c.in_ok-next.ensures.meaning

pub returns-in_err-next : goal.returns-in_err-next
returns-in_err-next c = missing-promised _ _ c.from_residual.ensures.1 (ends-refused c.in_err-next.ensures.meaning)

pub overflow_sub-size : goal.overflow_sub-size
overflow_sub-size c = (copies (goal.at.overflow_sub-size c).In_ok-next).order

pub returns-then-size-gt-PACKET_CEILING : goal.returns-then-size-gt-PACKET_CEILING
returns-then-size-gt-PACKET_CEILING c = over-ceiling (copies (goal.at.returns-then-size-gt-PACKET_CEILING c).In_ok-next) c.if-size-gt-PACKET_CEILING.true

pub returns-then-out-size : goal.returns-then-out-size
returns-then-out-size c = no_room (copies (goal.at.returns-then-out-size c).In_ok-next) c.if-size-gt-PACKET_CEILING.false c.if-out-size.true

pub returns : goal.returns
returns c =
    copied (copies (goal.at.returns c).In_ok-next) c.if-size-gt-PACKET_CEILING.false c.if-out-size.false (record { written = refl; output = rw c.bytes_at-bytes.ensures at c.copy.ensures })
