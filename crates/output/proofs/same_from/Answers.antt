-- From place i on the bytes are still to be compared (`same_next`, `same_stop`, `same-done` of Laws).
use mathlib.Core.Path.{sym}
use native.Mathlib.Omega.{arith}
use Rattle.output.proofs.Laws.{same-done, same_next, same_stop}
use Rattle.output.proofs.same_from.Goals as goal

pub returns-then-a-i : goal.returns-then-a-i
returns-then-a-i c =
    let l = c.loop-i in
    let a = c.args in
    sym (same_stop a.a.now a.b.now l.i l.invariant.1 (omega arith) (omega arith) c.if-a-i.true)

pub loop-i-preserved : goal.loop-i-preserved
loop-i-preserved c =
    let l = c.loop-i in
    let a = c.args in
    (omega arith, same_next a.a.now a.b.now l.i l.invariant.1 (omega arith) (omega arith) c.if-a-i.false)

pub returns : goal.returns
returns c =
    let l = c.loop-i in
    let a = c.args in
    sym (same-done a.a.now a.b.now l.i l.invariant.1 (omega arith) (omega arith))
