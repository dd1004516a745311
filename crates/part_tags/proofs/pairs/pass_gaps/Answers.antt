-- The loop: the tags skipped so far, and the pairs so far; the scan of these tags and of others is that of the others after these pairs.
use mathlib.Core.Path.{sym, ◌∙◌}
use Rattle.std.proofs.Math.Nat.{le-max_left, le-max_right}
use Rattle.wire.proofs.Steps.{propagated}
use Rattle.wire.specs.declared.Rule.{Rule}
use Rattle.part_tags.proofs.TagLaws.{there-is}
use Rattle.part_tags.proofs.GapTags.{pairs-length}
use Rattle.part_tags.proofs.Ranges.{skipped}
use Rattle.part_tags.proofs.Turns.{passing-done, passing-first, passing-pair, passing-plain, passing-refused, passing-stops}
use native.Mathlib.Omega.{arith}
use Rattle.part_tags.proofs.pairs.pass_gaps.Goals as goal

pub loop-i-init : goal.loop-i-init
loop-i-init c = passing-first _ _ _ _ _ _ c.requires

pub returns-then-after-eq0-clause-found : goal.returns-then-after-eq0-clause-found
returns-then-after-eq0-clause-found c =
    let h = c.loop-i.invariant in
    passing-refused _ _ _ _ _ h Rule.Order c.loop-i-test.true c.tag_after-after.ensures c.if-after-eq0.true

pub is_plain-requires : goal.is_plain-requires
is_plain-requires c = there-is _ _ c.tag_after-after.ensures c.if-after-eq0.false

pub size_at-number-requires : goal.size_at-number-requires
size_at-number-requires c = there-is _ _ c.tag_after-after.ensures c.if-after-eq0.false

pub loop-i-preserved-then-is_plain : goal.loop-i-preserved-then-is_plain
loop-i-preserved-then-is_plain c =
    let k = skipped c.args.s.now c.loop-i.next c.size_at-number.result c.tag_after-after.ensures c.if-after-eq0.false c.size_at-number.ensures in
    let plain = sym c.is_plain.ensures ∙ c.if-is_plain.true in
    rw c.join-sizes.ensures (passing-plain _ _ _ _ _ c.loop-i.invariant c.size_at-number.result c.loop-i-test.true k plain)

pub take_pair-requires : goal.take_pair-requires
take_pair-requires c =
    let there = there-is _ _ c.tag_after-after.ensures c.if-after-eq0.false in
    (there, sym c.is_plain.ensures ∙ c.if-is_plain.false, omega (arith, c.loop-i-test.true), c.loop-i.invariant.keeps)

pub returns-in_err-key-clause-found : goal.returns-in_err-key-clause-found
returns-in_err-key-clause-found c =
    rw (propagated _ c.from_residual.ensures.1) (passing-stops _ _ _ _ _ c.loop-i.invariant _ c.in_err-key.ensures)

pub bounds-starts-pairs : goal.bounds-starts-pairs
bounds-starts-pairs c = omega (arith, c.in_ok-key.ensures.room, pairs-length c.args.s.now c.loop-i.progress.count c.loop-i.starts)

pub loop-i-preserved : goal.loop-i-preserved
loop-i-preserved c =
    let highest = c.loop-i.progress.highest in
    rw c.max.ensures (passing-pair _ _ _ _ _ c.loop-i.invariant c.in_ok-key.ensures (le-max_left highest _) (le-max_right highest _))

pub returns-clause-found : goal.returns-clause-found
returns-clause-found c =
    let h = c.loop-i.invariant in
    passing-done _ _ _ _ _ h c.loop-i-test.false
