-- Each answer is a law of Replies, by what the reader of the tags found.
use Rattle.format.specs.Messages.{lone_tags}
use Rattle.wire.proofs.Replies.{over-ceiling, faulty, whole, bytes_left}
use Rattle.wire.proofs.Steps.{propagated}
use Rattle.tags.proofs.read_tag_list.Goals as goal

pub returns-then-s-gt-PACKET_CEILING-clause-result_value : goal.returns-then-s-gt-PACKET_CEILING-clause-result_value
returns-then-s-gt-PACKET_CEILING-clause-result_value c = (over-ceiling lone_tags _ c.type_inv.s c.if-s-gt-PACKET_CEILING.true).0

pub returns-in_err-list-clause-result_value : goal.returns-in_err-list-clause-result_value
returns-in_err-list-clause-result_value c =
    rw (propagated _ c.from_residual.ensures.1) ((faulty lone_tags _ c.type_inv.s c.if-s-gt-PACKET_CEILING.false c.in_err-list.ensures.result_value).0)

pub returns-in_err-list-clause-exact : goal.returns-in_err-list-clause-exact
returns-in_err-list-clause-exact c =
    rw (propagated _ c.from_residual.ensures.1) ((faulty lone_tags _ c.type_inv.s c.if-s-gt-PACKET_CEILING.false c.in_err-list.ensures.result_value).1.1)

pub returns-then-end-s-clause-result_value : goal.returns-then-end-s-clause-result_value
returns-then-end-s-clause-result_value c =
    (whole lone_tags _ c.type_inv.s c.if-s-gt-PACKET_CEILING.false c.in_ok-list.ensures.result_value c.if-end-s.true
    c.in_ok-list.ensures.placed).0

pub returns-then-end-s-clause-exact : goal.returns-then-end-s-clause-exact
returns-then-end-s-clause-exact c =
    (whole lone_tags _ c.type_inv.s c.if-s-gt-PACKET_CEILING.false c.in_ok-list.ensures.result_value c.if-end-s.true
    c.in_ok-list.ensures.placed).1.1

pub returns-clause-result_value : goal.returns-clause-result_value
returns-clause-result_value c =
    (bytes_left lone_tags _ c.type_inv.s c.if-s-gt-PACKET_CEILING.false c.in_ok-list.ensures.result_value c.if-end-s.false).0

pub returns-clause-exact : goal.returns-clause-exact
returns-clause-exact c =
    (bytes_left lone_tags _ c.type_inv.s c.if-s-gt-PACKET_CEILING.false c.in_ok-list.ensures.result_value c.if-end-s.false).1.1
