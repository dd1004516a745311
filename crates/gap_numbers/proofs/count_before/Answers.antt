-- The first i gaps end by the start of the range (`end-by-next` of Loops).
use Rattle.gap_numbers.proofs.Loops.{end-by-next}
use Rattle.gap_numbers.proofs.count_before.Goals as goal

pub loop-i-preserved : goal.loop-i-preserved
loop-i-preserved c =
    let a = c.args in
    end-by-next a.numbers.now a.gaps c.requires c.loop-i.i c.loop-i-test.true a.start c.if-start-numbers.false c.loop-i.invariant
