use Rattle.wire.proofs.Replies.{slice-bytes}
use Rattle.write_bodies.proofs.RecordEntries.{addresses-writes}
use Rattle.write_bodies.proofs.write_addresses.Goals as goal

pub returns : goal.returns
returns c =
    let s = c.args.src.now in
    addresses-writes s (slice-bytes s c.type_inv.src) c.args.out.now c.args.list c.write_bare.ensures
