-- From byte i on the beginning is still to be compared (the laws `prefix-..` of Texts).
use mathlib.Core.Path.{sym, ◌∙◌}
use native.Mathlib.Omega.{arith}
use Rattle.truth.proofs.Texts.{prefix-longer, prefix-step, prefix-stop, prefix-done}
use Rattle.truth.proofs.starts_with.Goals as goal

pub returns-then-s-t : goal.returns-then-s-t
returns-then-s-t c = sym (prefix-longer _ _ c.if-s-t.true)

pub loop-i-preserved : goal.loop-i-preserved
loop-i-preserved c =
    let a = c.args in
    (omega arith, (omega arith, c.loop-i.invariant.1.1 ∙ prefix-step a.t.now a.s.now c.loop-i.i (omega arith) (omega arith) c.if-t-i.false))

pub returns-then-t-i : goal.returns-then-t-i
returns-then-t-i c =
    let a = c.args in
    sym (c.loop-i.invariant.1.1 ∙ prefix-stop a.t.now a.s.now c.loop-i.i (omega arith) (omega arith) c.if-t-i.true)

pub returns : goal.returns
returns c = sym (c.loop-i.invariant.1.1 ∙ prefix-done _ _ _ c.loop-i-test.false)
