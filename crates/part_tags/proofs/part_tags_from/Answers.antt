-- The tags before the first gap tag hold one size tag, and the pass over the others meets no other one; else two passes decide.
use Rattle.part_tags.proofs.Checks.{checked-at-once}
use Rattle.part_tags.proofs.part_tags_from.Goals as goal

pub returns : goal.returns
returns c =
    let a = c.args in
    checked-at-once a.s.now a.at a.count _ c.in_ok-leading.ensures _ _ _ _ _ c.in-One.is c.in-One-sizes.is c.in-Ok.ensures.found
