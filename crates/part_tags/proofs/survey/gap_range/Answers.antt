-- The loop: the tags skipped so far up to the last gap tag, and those after it.
use mathlib.Core.Path.{sym, ◌∙◌}
use Rattle.part_tags.proofs.TagLaws.{there-is}
use Rattle.part_tags.proofs.Ranges.{Skipped, ranges-first, ranges-gap, ranges-plain, ranges-refused, skipped}
use Rattle.part_tags.proofs.survey.gap_range.Goals as goal
use Rattle.part_tags.proofs.survey.gap_range.Goals.{After-join-sizes}

-- the tag that is skipped in a turn
tag_of : (c : After-join-sizes)
    → Skipped c.args.s.now c.loop-i.next c.size_at-number.result c.tag_after-after.result
tag_of c =
    skipped _ _ c.size_at-number.result c.tag_after-after.ensures c.if-after-eq0.false c.size_at-number.ensures

pub loop-i-init : goal.loop-i-init
loop-i-init c = ranges-first _ _ _ _

pub returns-then-after-eq0 : goal.returns-then-after-eq0
returns-then-after-eq0 c = ranges-refused _ _ _ _ c.loop-i.invariant c.loop-i-test.true c.fault_at.ensures

pub size_at-number-requires : goal.size_at-number-requires
size_at-number-requires c = there-is _ _ c.tag_after-after.ensures c.if-after-eq0.false

pub is_plain-requires : goal.is_plain-requires
is_plain-requires c = there-is _ _ c.tag_after-after.ensures c.if-after-eq0.false

pub loop-i-preserved-then-is_plain : goal.loop-i-preserved-then-is_plain
loop-i-preserved-then-is_plain c =
    let plain = sym c.is_plain.ensures ∙ c.if-is_plain.true in
    rw c.join-sizes.ensures (ranges-plain _ _ _ _ c.loop-i.invariant c.size_at-number.result c.loop-i-test.true (tag_of (goal.at.loop-i-preserved-then-is_plain c).After-join-sizes) plain)

pub loop-i-preserved : goal.loop-i-preserved
loop-i-preserved c = rw c.join-sizes.ensures (ranges-gap _ _ _ _ c.loop-i.invariant c.size_at-number.result c.loop-i-test.true (tag_of (goal.at.loop-i-preserved c).After-join-sizes))
