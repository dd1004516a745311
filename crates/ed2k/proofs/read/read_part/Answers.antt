-- The numbers of a part.met that is accepted, or its number (`part-read`, `handed` of Links).
use mathlib.Core.Path.{refl}
use Rattle.ed2k.proofs.Links.{handed, part-read}
use Rattle.ed2k.proofs.read.read_part.Goals as goal

pub returns-in-Err : goal.returns-in-Err
returns-in-Err c =
    part-read _ _ c.read_part_met.result _ c.read_part_met.ensures.meaning c.read_part_met.ensures.placed c.read_part_met.ensures.sized
    (rw (c.in-Err.is, c.number.ensures) refl)

pub returns-in-Ok : goal.returns-in-Ok
returns-in-Ok c =
    part-read _ _ c.read_part_met.result _ c.read_part_met.ensures.meaning c.read_part_met.ensures.placed c.read_part_met.ensures.sized
    (rw c.in-Ok.is (handed _ c.hand_out.ensures c.part_fields.ensures))
