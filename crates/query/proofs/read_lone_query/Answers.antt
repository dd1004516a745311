-- Each answer is a law of Replies, by what the reader of the query found.
use Rattle.format.specs.Messages.{lone_query}
use Rattle.wire.proofs.Replies.{over-ceiling, faulty, whole, bytes_left}
use Rattle.wire.proofs.Steps.{propagated}
use Rattle.query.proofs.read_lone_query.Goals as goal

pub returns-then-s-gt-PACKET_CEILING-clause-meaning : goal.returns-then-s-gt-PACKET_CEILING-clause-meaning
returns-then-s-gt-PACKET_CEILING-clause-meaning c = (over-ceiling lone_query _ c.type_inv.s c.if-s-gt-PACKET_CEILING.true).0

pub returns-in_err-query-clause-meaning : goal.returns-in_err-query-clause-meaning
returns-in_err-query-clause-meaning c =
    rw (propagated _ c.from_residual.ensures.1)
    ((faulty lone_query _ c.type_inv.s c.if-s-gt-PACKET_CEILING.false c.in_err-query.ensures.meaning).0)

pub returns-in_err-query-clause-demand3 : goal.returns-in_err-query-clause-demand3
returns-in_err-query-clause-demand3 c =
    rw (propagated _ c.from_residual.ensures.1)
    ((faulty lone_query _ c.type_inv.s c.if-s-gt-PACKET_CEILING.false c.in_err-query.ensures.meaning).1.1)

pub returns-then-next-s-clause-meaning : goal.returns-then-next-s-clause-meaning
returns-then-next-s-clause-meaning c =
    (whole lone_query _ c.type_inv.s c.if-s-gt-PACKET_CEILING.false c.in_ok-query.ensures.meaning c.if-next-s.true c.in_ok-query.ensures.placed).0

pub returns-then-next-s-clause-demand3 : goal.returns-then-next-s-clause-demand3
returns-then-next-s-clause-demand3 c =
    (whole lone_query _ c.type_inv.s c.if-s-gt-PACKET_CEILING.false c.in_ok-query.ensures.meaning c.if-next-s.true c.in_ok-query.ensures.placed).1.1

pub returns-clause-meaning : goal.returns-clause-meaning
returns-clause-meaning c = (bytes_left lone_query _ c.type_inv.s c.if-s-gt-PACKET_CEILING.false c.in_ok-query.ensures.meaning c.if-next-s.false).0

pub returns-clause-demand3 : goal.returns-clause-demand3
returns-clause-demand3 c = (bytes_left lone_query _ c.type_inv.s c.if-s-gt-PACKET_CEILING.false c.in_ok-query.ensures.meaning c.if-next-s.false).1.1
