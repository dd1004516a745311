use mathlib.Core.Path.{◌∙◌}
use native.Mathlib.Omega.{arith}
use Rattle.wire.proofs.Replies.{slice-bytes}
use Rattle.merge_compare.proofs.Encodings.{hashes-lie}
use Rattle.merge_compare.proofs.hashes_in.Goals as goal

pub overflow_sub-hashes : goal.overflow_sub-hashes
overflow_sub-hashes c =
    let s = c.args.s.now in
    omega (arith, hashes-lie s (slice-bytes s c.type_inv.s) c.args.hashes c.requires)

pub returns : goal.returns
returns c =
    let s = c.args.s.now in
    c.bytes_at.ensures ∙ (hashes-lie s (slice-bytes s c.type_inv.s) c.args.hashes c.requires).bytes
