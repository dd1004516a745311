use Rattle.wire.proofs.Replies.{slice-bytes}
use Rattle.merge_compare.proofs.Runs.{range-within}
use Rattle.merge_compare.proofs.run_before.Goals as goal

pub overflow_sub-range : goal.overflow_sub-range
overflow_sub-range c =
    let s = c.args.s.now in
    rw c.tags-tags.ensures (range-within s (slice-bytes s c.type_inv.s) c.args.part c.args.gaps c.requires).0
