-- The head and the body are named once they are read, and each answer is a law of Links.
use mathlib.Core.Path.{◌≡◌, refl}
use Rattle.format.specs.Decoding.{got}
use Rattle.wire.specs.WireAnswers.{fault_meaning}
use Rattle.bodies.specs.BodyAnswers.{body_in}
use Rattle.packets.specs.PacketAnswers.{decode_link}
use Rattle.packets.proofs.Links.{over-ceiling, faulty, whole, bytes_left}
use Rattle.wire.proofs.Steps.{propagated}
use Rattle.packets.proofs.packet_step.Goals as goal
use Rattle.packets.proofs.packet_step.Goals.{In_ok-body}

body-read : (c : In_ok-body) → let start = c.args in
    got (record { opening = 0xE3; opcode = c.in_ok-opcode.opcode; body = body_in start.s.now c.in_ok-body.body }) c.in_ok-body.next.at ≡ decode_link start.link start.s.now 0
body-read c = rw (← c.in_ok-opcode.ensures, ← c.in_ok-body.ensures.meaning) refl

pub returns-then-length-gt-PACKET_CEILING-clause-meaning : goal.returns-then-length-gt-PACKET_CEILING-clause-meaning
returns-then-length-gt-PACKET_CEILING-clause-meaning c =
    let start = c.args in
    (over-ceiling start.s.now c.type_inv.s start.link c.if-length-gt-PACKET_CEILING.true).0

pub returns-then-length-gt-PACKET_CEILING-clause-reason : goal.returns-then-length-gt-PACKET_CEILING-clause-reason
returns-then-length-gt-PACKET_CEILING-clause-reason c =
    let start = c.args in
    (over-ceiling start.s.now c.type_inv.s start.link c.if-length-gt-PACKET_CEILING.true).1.1.1

pub returns-in_err-opcode-clause-meaning : goal.returns-in_err-opcode-clause-meaning
returns-in_err-opcode-clause-meaning c =
    let start = c.args in
    rw (propagated _ c.from_residual.ensures.1) ((faulty start.s.now c.type_inv.s c.if-length-gt-PACKET_CEILING.false start.link c.in_err-opcode.ensures).0)

pub returns-in_err-opcode-clause-demand3 : goal.returns-in_err-opcode-clause-demand3
returns-in_err-opcode-clause-demand3 c =
    let start = c.args in
    rw (propagated _ c.from_residual.ensures.1) ((faulty start.s.now c.type_inv.s c.if-length-gt-PACKET_CEILING.false start.link c.in_err-opcode.ensures).1.1.0)

pub returns-in_err-opcode-clause-reason : goal.returns-in_err-opcode-clause-reason
returns-in_err-opcode-clause-reason c =
    let start = c.args in
    rw (propagated _ c.from_residual.ensures.1) ((faulty start.s.now c.type_inv.s c.if-length-gt-PACKET_CEILING.false start.link c.in_err-opcode.ensures).1.1.1)

pub returns-in_err-body-clause-meaning : goal.returns-in_err-body-clause-meaning
returns-in_err-body-clause-meaning c =
    let start = c.args in
    rw (propagated _ c.from_residual-in_err-body.ensures.1) ((faulty start.s.now c.type_inv.s c.if-length-gt-PACKET_CEILING.false start.link {f = fault_meaning c.in_err-body.field-0.0} (rw (← c.in_ok-opcode.ensures, ← c.in_err-body.ensures.meaning) refl)).0)

pub returns-in_err-body-clause-demand3 : goal.returns-in_err-body-clause-demand3
returns-in_err-body-clause-demand3 c =
    let start = c.args in
    rw (propagated _ c.from_residual-in_err-body.ensures.1) ((faulty start.s.now c.type_inv.s c.if-length-gt-PACKET_CEILING.false start.link {f = fault_meaning c.in_err-body.field-0.0} (rw (← c.in_ok-opcode.ensures, ← c.in_err-body.ensures.meaning) refl)).1.1.0)

pub returns-in_err-body-clause-reason : goal.returns-in_err-body-clause-reason
returns-in_err-body-clause-reason c =
    let start = c.args in
    rw (propagated _ c.from_residual-in_err-body.ensures.1) ((faulty start.s.now c.type_inv.s c.if-length-gt-PACKET_CEILING.false start.link {f = fault_meaning c.in_err-body.field-0.0} (rw (← c.in_ok-opcode.ensures, ← c.in_err-body.ensures.meaning) refl)).1.1.1)

pub returns-then-end-length-clause-meaning : goal.returns-then-end-length-clause-meaning
returns-then-end-length-clause-meaning c =
    let start = c.args in
    (whole start.s.now c.type_inv.s c.if-length-gt-PACKET_CEILING.false start.link (body-read (goal.at.returns-then-end-length-clause-meaning c).In_ok-body) c.if-end-length.true c.in_ok-body.ensures.placed).0

pub returns-then-end-length-clause-demand3 : goal.returns-then-end-length-clause-demand3
returns-then-end-length-clause-demand3 c =
    let start = c.args in
    (whole start.s.now c.type_inv.s c.if-length-gt-PACKET_CEILING.false start.link (body-read (goal.at.returns-then-end-length-clause-demand3 c).In_ok-body) c.if-end-length.true c.in_ok-body.ensures.placed).1.1.0

pub returns-then-end-length-clause-reason : goal.returns-then-end-length-clause-reason
returns-then-end-length-clause-reason c =
    let start = c.args in
    (whole start.s.now c.type_inv.s c.if-length-gt-PACKET_CEILING.false start.link (body-read (goal.at.returns-then-end-length-clause-reason c).In_ok-body) c.if-end-length.true c.in_ok-body.ensures.placed).1.1.1

pub returns-clause-meaning : goal.returns-clause-meaning
returns-clause-meaning c =
    let start = c.args in
    (bytes_left start.s.now c.type_inv.s c.if-length-gt-PACKET_CEILING.false start.link (body-read (goal.at.returns-clause-meaning c).In_ok-body) c.if-end-length.false).0

pub returns-clause-demand3 : goal.returns-clause-demand3
returns-clause-demand3 c =
    let start = c.args in
    (bytes_left start.s.now c.type_inv.s c.if-length-gt-PACKET_CEILING.false start.link (body-read (goal.at.returns-clause-demand3 c).In_ok-body) c.if-end-length.false).1.1.0

pub returns-clause-reason : goal.returns-clause-reason
returns-clause-reason c =
    let start = c.args in
    (bytes_left start.s.now c.type_inv.s c.if-length-gt-PACKET_CEILING.false start.link (body-read (goal.at.returns-clause-reason c).In_ok-body) c.if-end-length.false).1.1.1
