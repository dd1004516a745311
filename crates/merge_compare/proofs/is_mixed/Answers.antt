use Rattle.wire.proofs.Replies.{slice-bytes}
use Rattle.merge_compare.proofs.Runs.{measurable}
use Rattle.merge_compare.proofs.is_mixed.Goals as goal

pub measure_within-plain-requires : goal.measure_within-plain-requires
measure_within-plain-requires c =
    let s = c.args.s.now in
    measurable s (slice-bytes s c.type_inv.s) c.args.part c.args.gaps c.requires
