-- Runs shorter than a block byte by byte; others block by block: from place i on the runs are still to be compared, up to the last block.
use mathlib.Core.Path.{sym}
use native.Mathlib.Omega.{arith}
use Rattle.format.proofs.PartTags.{same-lengths}
use Rattle.output.proofs.Laws.{same-agree, same_block, same-last}
use Rattle.output.proofs.same.Goals as goal

pub returns-then-n-b : goal.returns-then-n-b
returns-then-n-b c = sym (same-lengths _ _ c.if-n-b.true)

pub returns-then-differ-ne0 : goal.returns-then-differ-ne0
returns-then-differ-ne0 c =
    let a = c.args in
    let i = c.loop-i.i in
    sym (same-agree a.a.now a.b.now i 128 (λ agree. c.if-differ-ne0.true (c.differing-differ.ensures.1 agree)))

pub loop-i-preserved : goal.loop-i-preserved
loop-i-preserved c =
    let a = c.args in
    let l = c.loop-i in
    let agree = c.differing-differ.ensures.0 c.if-differ-ne0.false in
    (omega arith, same_block a.a.now a.b.now l.i 128 (omega arith) (omega arith) l.invariant.1 agree)

pub returns-then-differ_last-ne0 : goal.returns-then-differ_last-ne0
returns-then-differ_last-ne0 c =
    let a = c.args in
    sym (same-agree a.a.now a.b.now _ 128 (λ agree. c.if-differ_last-ne0.true (c.differing-differ_last.ensures.1 agree)))

pub returns : goal.returns
returns c =
    let a = c.args in
    let l = c.loop-i in
    let agree = c.differing-differ_last.ensures.0 c.if-differ_last-ne0.false in
    sym (same-last a.a.now a.b.now _ 128 l.i (omega arith) (omega arith) (omega arith) (omega arith) l.invariant.1 agree)
