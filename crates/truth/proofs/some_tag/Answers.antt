-- No tag before the offset is one that the leaf looks for (the laws `look_..` of Found).
use Rattle.truth.proofs.Found.{look_first, look_on}
use Rattle.truth.proofs.some_tag.Goals as goal

pub loop-init : goal.loop-init
loop-init g c =
    let a = c.args in
    look_first a.tags.now (goal.F-post g a.meets) a.list.count a.list.at c.requires.placed

pub loop-preserved : goal.loop-preserved
loop-preserved g c = look_on c.loop.invariant c.loop-test.true c.whole_tag_end-at.ensures c.if-meets.false c.meets.ensures
