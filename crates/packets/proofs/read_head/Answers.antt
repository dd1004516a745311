-- The opening byte is named once it is read, and each answer is a law of Heads.
use mathlib.Core.Path.{◌≡◌}
use mathlib.Core.List.{[], ◌∷◌}
use Rattle.format.specs.Decoding.{got}
use Rattle.format.specs.PacketOrder.{decode_opening}
use Rattle.packets.proofs.Heads.{no-opening, no-frame, after_frame}
use Rattle.packets.proofs.Openings.{opened}
use Rattle.wire.proofs.Steps.{propagated}
use Rattle.packets.proofs.read_head.Goals as goal
use Rattle.packets.proofs.read_head.Goals.{In_ok-after_opening}

opening-read : (c : In_ok-after_opening) → let start = c.args in
    got 0xE3 c.in_ok-after_opening.after_opening.at ≡ decode_opening (0xE3 ∷ []) start.s.now 0
opening-read c = opened 0xE3 c.args.s.now 0 c.in_ok-after_opening.was c.read_opening.ensures

pub returns-in_err-after_opening : goal.returns-in_err-after_opening
returns-in_err-after_opening c =
    rw ((propagated _ c.from_residual.ensures.1)) (no-opening _ c.args.link c.in_err-after_opening.ensures)

pub returns-in_err-after_frame : goal.returns-in_err-after_frame
returns-in_err-after_frame c =
    rw ((propagated _ c.from_residual-in_err-after_frame.ensures.1)) (no-frame _ (opening-read (goal.at.returns-in_err-after_frame c).In_ok-after_opening) c.args.link c.in_err-after_frame.ensures)

pub returns : goal.returns
returns c =
    let framed = c.in_ok-after_frame.ensures in
    after_frame _ (opening-read (goal.at.returns c).In_ok-after_opening) c.args.link c.read_opcode.result framed c.read_opcode.ensures
