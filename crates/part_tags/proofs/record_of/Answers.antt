-- The loop: the record holds the gaps of the first `filled` pairs, and 0 in the other slots.
use mathlib.Core.Path.{◌≡◌, refl, ◌∙◌}
use Rattle.part_tags.specs.Pairs.{first_gaps}
use Rattle.part_tags.proofs.GapTags.{inside-at, slots_next, slots-record}
use native.Mathlib.Omega.{arith}
use Rattle.part_tags.proofs.record_of.Goals as goal

pub loop-filled-init : goal.loop-filled-init
unfolding first_gaps
loop-filled-init c = (omega arith, rw c.none_missing-made.ensures refl)

pub gap_at-requires : goal.gap_at-requires
gap_at-requires c = inside-at c.args.s.now c.args.count c.loop-filled.filled c.args.starts.now c.requires.1 c.loop-filled-test.true

pub loop-filled-preserved : goal.loop-filled-preserved
loop-filled-preserved c =
    let a = c.args in
    (omega arith, rw (c.loop-filled.invariant.1, c.gap_at.ensures, ← slots_next a.s.now c.loop-filled.filled a.starts.now (omega arith)) refl)

pub returns : goal.returns
returns c =
    let a = c.args in
    let e : c.loop-filled.filled ≡ a.count = omega arith in
    rw e at c.loop-filled.invariant.1 ∙ slots-record a.s.now a.size a.count a.starts.now
