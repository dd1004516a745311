-- The numbers of a known.met that is accepted, or its number (`known_read`, `handed` of Links).
use mathlib.Core.Path.{refl}
use Rattle.ed2k.proofs.Links.{handed, known_read}
use Rattle.ed2k.proofs.read.read_known.Goals as goal

pub returns-in-Err : goal.returns-in-Err
returns-in-Err c =
    known_read _ _ c.read_known_met.result _ c.read_known_met.ensures.meaning c.read_known_met.ensures.placed
    (rw (c.in-Err.is, c.number.ensures) refl)

pub returns-in-Ok : goal.returns-in-Ok
returns-in-Ok c =
    known_read _ _ c.read_known_met.result _ c.read_known_met.ensures.meaning c.read_known_met.ensures.placed
    (rw c.in-Ok.is (handed _ c.hand_out.ensures c.known_fields.ensures))
