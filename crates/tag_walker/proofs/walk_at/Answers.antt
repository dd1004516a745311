-- At the beginning the ceiling and the count come first; elsewhere, and after these, the step is that of walk_from.
use mathlib.Core.Path.{refl}
use borrow.Author.Tests.{le-leb, lt-leb, eq-eqb, ne_eqb}
use Rattle.format.specs.Rules.{packet_ceiling}
use Rattle.wire.proofs.Steps.{propagated}
use Rattle.tag_walker.specs.Walk.{spec_walk_at}
use Rattle.tag_walker.proofs.walk_at.Goals as goal

pub returns-then-at-ne0 : goal.returns-then-at-ne0
unfolding spec_walk_at
returns-then-at-ne0 c = rw (ne_eqb _ _ c.if-at-ne0.true) c.walk_from.ensures

pub returns-then-s-gt-PACKET_CEILING : goal.returns-then-s-gt-PACKET_CEILING
unfolding spec_walk_at
returns-then-s-gt-PACKET_CEILING c = rw (c.if-at-ne0.false, lt-leb _ packet_ceiling c.if-s-gt-PACKET_CEILING.true) (refl, tt)

pub returns-in_err-count : goal.returns-in_err-count
unfolding spec_walk_at
returns-in_err-count c =
    rw (propagated _ c.from_residual.ensures.1, eq-eqb _ 0 c.if-at-ne0.false, le-leb _ packet_ceiling c.if-s-gt-PACKET_CEILING.false, ← c.in_err-count.ensures)
    (refl, tt)

pub returns : goal.returns
unfolding spec_walk_at
returns c =
    rw (eq-eqb _ 0 c.if-at-ne0.false, le-leb _ packet_ceiling c.if-s-gt-PACKET_CEILING.false, ← c.in_ok-count.ensures)
    c.walk_from-2.ensures
