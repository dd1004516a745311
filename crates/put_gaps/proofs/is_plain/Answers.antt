use Rattle.tags.specs.TagAnswers.{tag_of}
use mathlib.Core.Path.{refl}
use native.Mathlib.Omega.{arith}
use borrow.Author.Tests.{eq-eqb, ne_eqb}
use Rattle.put_gaps.proofs.Kept.{plain-named, plain_nameless}
use Rattle.put_gaps.proofs.is_plain.Goals as goal

pub returns-then-name-eq0 : goal.returns-then-name-eq0
returns-then-name-eq0 c = plain_nameless _ _ c.bytes_at-name.ensures c.if-name-eq0.true

pub returns-then-first-eq-START : goal.returns-then-first-eq-START
returns-then-first-eq-START c =
    let a = c.args in
    rw (plain-named (tag_of a.s.now a.tag) _ c.bytes_at-name.ensures (omega arith), eq-eqb _ _ c.if-first-eq-START.true) refl

pub returns : goal.returns
returns c =
    let a = c.args in
    rw (plain-named (tag_of a.s.now a.tag) _ c.bytes_at-name.ensures (omega arith), ne_eqb _ _ c.if-first-eq-START.false) refl
