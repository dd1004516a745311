-- No tag left: bytes after the list, or its end. Else the tag that is read there, or its fault.
use mathlib.Core.Path.{refl}
use borrow.Author.Tests.{lt-ltb, le-ltb, eq-eqb, ne_eqb}
use Rattle.tag_walker.specs.Walk.{spec_walk_from}
use Rattle.wire.proofs.Steps.{propagated}
use Rattle.tag_walker.proofs.walk_from.Goals as goal

pub returns-then-from-s : goal.returns-then-from-s
unfolding spec_walk_from
returns-then-from-s c = rw (eq-eqb _ 0 c.if-count-eq0.true, lt-ltb c.args.from _ c.if-from-s.true) (refl, tt)

pub returns-then-count-eq0 : goal.returns-then-count-eq0
unfolding spec_walk_from
returns-then-count-eq0 c = rw (eq-eqb _ 0 c.if-count-eq0.true, le-ltb c.args.from _ c.if-from-s.false) (refl, tt)

pub returns-in_err-tag : goal.returns-in_err-tag
unfolding spec_walk_from
returns-in_err-tag c = rw (propagated _ c.from_residual.ensures.1, ne_eqb _ _ c.if-count-eq0.false, ← c.in_err-tag.ensures.result_value) (refl, tt)

pub returns : goal.returns
unfolding spec_walk_from
returns c = rw (ne_eqb _ _ c.if-count-eq0.false, ← c.in_ok-tag.ensures.result_value) (refl, c.in_ok-tag.ensures.inside)
