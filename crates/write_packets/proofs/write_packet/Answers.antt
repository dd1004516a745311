-- The shape is checked first, then the body.
use mathlib.Core.Path.{sym, ◌∙◌}
use Rattle.wire.proofs.Replies.{slice-bytes}
use Rattle.write_packets.proofs.Writes.{other-shape, passed-unfit}
use Rattle.write_packets.proofs.write_packet.Goals as goal

pub returns-then-another_shape : goal.returns-then-another_shape
returns-then-another_shape c =
    let a = c.args in
    let src = a.src.now in
    other-shape a.link src (slice-bytes src c.type_inv.src) a.packet a.out.now (sym (c.another_shape.ensures src) ∙ c.if-another_shape.true)

pub returns-in_err-found : goal.returns-in_err-found
returns-in_err-found c =
    let a = c.args in
    let src = a.src.now in
    passed-unfit a.link src (slice-bytes src c.type_inv.src) a.packet _ _ a.out.now c.from_residual.ensures.1
    (sym (c.another_shape.ensures src) ∙ c.if-another_shape.false) c.in_err-found.ensures
