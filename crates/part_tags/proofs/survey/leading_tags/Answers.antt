-- The loop: the tags skipped so far are no gap tags.
use mathlib.Core.Path.{sym, ◌∙◌}
use Rattle.part_tags.proofs.TagLaws.{there-is}
use Rattle.part_tags.proofs.Ranges.{leads-first, leads-next, leads-refused, skipped}
use Rattle.part_tags.proofs.survey.leading_tags.Goals as goal

pub loop-i-init : goal.loop-i-init
loop-i-init c = leads-first _ _ _

pub returns-then-after-eq0 : goal.returns-then-after-eq0
returns-then-after-eq0 c = leads-refused _ _ _ c.loop-i.invariant c.loop-i-test.true c.fault_at.ensures

pub is_plain-requires : goal.is_plain-requires
is_plain-requires c = there-is _ _ c.tag_after-after.ensures c.if-after-eq0.false

pub size_at-number-requires : goal.size_at-number-requires
size_at-number-requires c = there-is _ _ c.tag_after-after.ensures c.if-after-eq0.false

pub loop-i-preserved : goal.loop-i-preserved
loop-i-preserved c =
    let k = skipped c.args.s.now c.loop-i.next c.size_at-number.result c.tag_after-after.ensures c.if-after-eq0.false c.size_at-number.ensures in
    let plain = sym c.is_plain.ensures ∙ c.if-not-is_plain.false in
    rw c.join-sizes.ensures (leads-next _ _ _ c.loop-i.invariant c.size_at-number.result c.loop-i-test.true k plain)
