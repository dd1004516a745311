-- The tags that were passed are gap tags (`Passed` of PlainTags).
use Rattle.format.specs.Order.{decode_tag}
use Rattle.part_tags.proofs.Rest.{rest-there}
use Rattle.wire.proofs.Replies.{slice-bytes}
use Rattle.merge_compare.proofs.PlainTags.{found, passed-all, passed-next}
use Rattle.merge_compare.proofs.next_plain.Goals as goal

pub returns-in_default-clause-found : goal.returns-in_default-clause-found
returns-in_default-clause-found c =
    let h = c.loop-i-test.true in
    let read = rw c.in_default.is at c.read_tag.ensures.result_value in
    absurd (rest-there decode_tag _ _ _ c.requires.1 _ _ h c.loop-i.invariant.reached read)

pub returns-then-is_plain-clause-found : goal.returns-then-is_plain-clause-found
returns-then-is_plain-clause-found c =
    let s = c.args.s.now in
    let bytes = slice-bytes s c.type_inv.s in
    let read = c.in-Ok.ensures.result_value in
    let plain = rw c.if-is_plain.true at c.is_plain.ensures in
    (found s _ _ c.requires _ _ c.loop-i-test.true c.loop-i.invariant read bytes plain)

pub loop-i-preserved : goal.loop-i-preserved
loop-i-preserved c =
    let read = c.in-Ok.ensures.result_value in
    let plain = rw c.if-is_plain.false at c.is_plain.ensures in
    passed-next _ _ _ c.requires _ _ c.loop-i-test.true c.loop-i.invariant read plain

pub returns-clause-found : goal.returns-clause-found
returns-clause-found c =
    passed-all _ _ _ _ _ c.loop-i.invariant c.loop-i-test.false
