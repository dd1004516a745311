-- The numbers of a server.met that is accepted, or its number (`server-read`, `handed` of Links).
use mathlib.Core.Path.{refl}
use Rattle.ed2k.proofs.Links.{handed, server-read}
use Rattle.ed2k.proofs.read.read_server.Goals as goal

pub returns-in-Err : goal.returns-in-Err
returns-in-Err c =
    server-read _ _ c.read_server_met.result _ c.read_server_met.ensures.meaning c.read_server_met.ensures.placed
    (rw (c.in-Err.is, c.number.ensures) refl)

pub returns-in-Ok : goal.returns-in-Ok
returns-in-Ok c =
    server-read _ _ c.read_server_met.result _ c.read_server_met.ensures.meaning c.read_server_met.ensures.placed
    (rw c.in-Ok.is (handed _ c.hand_out.ensures c.server_fields.ensures))
