-- Each answer follows by a law of Answers from what is known of the packet within the byte ceiling: `known`.
use mathlib.Core.Path.{refl, sym, ◌∙◌}
use mathlib.Core.List.{◌++◌}
use Prim.Native.Nat.{◌+◌}
use native.Mathlib.Omega.{arith}
use Rattle.wire.proofs.Replies.{slice-bytes}
use Rattle.output.proofs.Laws.{after}
use Rattle.output.specs.WriteAnswers.{number_of}
use Rattle.bodies.specs.BodyAnswers.{body_in}
use Rattle.check_bodies.specs.Bodies.{bytes_of}
use Rattle.write_items.proofs.Answers.{Ready, faulty, roomless, written}
use Rattle.write_packets.specs.Packets.{head_bytes, spec_head_size, spec_reader_number}
use Rattle.write_packets.proofs.Writes.{Owed, head-length, head_small, over-ceiling, packet-ready}
use Rattle.write_packets.proofs.write_ready.Goals as goal
use Rattle.write_packets.proofs.write_ready.Goals.{Else-head-bytes}

known : (c : Else-head-bytes) →
    let a = c.args in
    let p = a.packet in
    Ready (Owed a.link a.src.now (slice-bytes a.src.now c.type_inv.src) p) (spec_reader_number a.link p.opening p.opcode (number_of a.found.rule))
    (head_bytes a.link p.opening p.opcode a.found.size ++ bytes_of (body_in a.src.now p.body)) (spec_head_size a.link + a.found.size)
known c =
    let a = c.args in
    packet-ready a.link a.src.now (slice-bytes a.src.now c.type_inv.src) a.packet (omega (arith, c.well_formed)) (omega (arith, c.well_formed)) c.requires
    (omega (arith, c.if-head-bytes.false, c.head_size-head.ensures, head_small a.link))

pub returns-then-head-bytes : goal.returns-then-head-bytes
returns-then-head-bytes c =
    let a = c.args in
    over-ceiling a.link a.src.now (slice-bytes a.src.now c.type_inv.src) a.packet (omega (arith, c.well_formed)) (omega (arith, c.well_formed)) c.requires a.out.now
    (omega (arith, c.if-head-bytes.true, c.head_size-head.ensures))

pub returns-in_err-check_reading : goal.returns-in_err-check_reading
returns-in_err-check_reading c = faulty (known (goal.at.returns-in_err-check_reading c).Else-head-bytes) _ _ c.from_residual.ensures.1 c.in_err-check_reading.ensures

pub returns-then-out-size : goal.returns-then-out-size
returns-then-out-size c =
    roomless (known (goal.at.returns-then-out-size c).Else-head-bytes) c.in_ok-check_reading.ensures (omega (arith, c.if-out-size.true, c.head_size-head.ensures))

pub returns : goal.returns
returns c =
    let a = c.args in
    let p = a.packet in
    let size = head-length a.link p.opening p.opcode a.found.size ∙ sym c.head_size-head.ensures in
    let out = after (head_bytes a.link p.opening p.opcode a.found.size) (bytes_of (body_in a.src.now p.body)) a.out.now _ _ c.head_size-head.result size c.put_head.ensures c.put_body.ensures.output in
    rw (out, c.head_size-head.ensures)
    (written (known (goal.at.returns c).Else-head-bytes) c.in_ok-check_reading.ensures (omega (arith, c.if-out-size.false, c.head_size-head.ensures))
    (record { written = refl; output = refl }))
