use native.Mathlib.Omega.{arith}
use Rattle.wire.proofs.Replies.{slice-bytes}
use Rattle.write_bodies.proofs.RecordEntries.{record-writes}
use Rattle.write_bodies.proofs.write_record.Goals as goal

pub returns : goal.returns
returns c =
    let s = c.args.src.now in
    record-writes s (slice-bytes s c.type_inv.src) c.args.out.now c.args.file (omega (arith, c.well_formed.1)) c.write_bare.ensures
