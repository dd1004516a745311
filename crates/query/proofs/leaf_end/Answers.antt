-- Each case of a leaf passes by its law of Skips, with the text that the tests found.
use mathlib.Core.Path.{refl}
use native.Mathlib.Omega.{arith}
use Rattle.format.specs.Order.{is_limit}
use Rattle.query.proofs.Skips.{node-passes, keyword-passes, field-passes}
use Rattle.query.proofs.leaf_end.Goals as goal

pub returns-then-code-eq3 : goal.returns-then-code-eq3
returns-then-code-eq3 c =
    let start = c.args in
    node-passes is_limit start.s.now start.at (omega (arith, c.if-s-at.false, c.if-s-lt3.false)) (rw c.if-code-eq3.true refl) c.limit_end.ensures

pub returns-then-code-eq1 : goal.returns-then-code-eq1
returns-then-code-eq1 c =
    let start = c.args in
    keyword-passes start.s.now start.at _ c.pair-n.ensures (omega (arith, c.if-s-at.false, c.if-s-lt3.false, c.if-s-text.false)) c.if-code-eq1.true

pub returns : goal.returns
returns c =
    let start = c.args in
    field-passes start.s.now start.at _ c.pair-n.ensures (omega (arith, c.if-s-at.false, c.if-s-lt3.false, c.if-s-text.false))
    (omega (arith, c.if-code-ne2.false)) c.name_end.ensures
