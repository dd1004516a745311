use Rattle.wire.proofs.Replies.{slice-bytes}
use Rattle.merge_compare.proofs.Runs.{range-within}
use Rattle.merge_compare.proofs.run_after.Goals as goal

pub overflow_sub-tags : goal.overflow_sub-tags
overflow_sub-tags c =
    let s = c.args.s.now in
    rw c.tags-tags.ensures (range-within s (slice-bytes s c.type_inv.s) c.args.part c.args.gaps c.requires).1
