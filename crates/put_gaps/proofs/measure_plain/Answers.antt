-- After i tags the tags that stay and their bytes are counted (`Measured` of Kept).
use Rattle.put_gaps.proofs.Kept.{measured-next, measured-all, tag-place}
use Rattle.part_tags.proofs.Rest.{rest-there}
use Rattle.wire.proofs.Replies.{slice-bytes}
use Rattle.format.specs.Order.{decode_tag}
use native.Mathlib.Omega.{arith}
use Rattle.put_gaps.proofs.measure_plain.Goals as goal

pub returns-in_default-clause-count : goal.returns-in_default-clause-count
returns-in_default-clause-count c =
    let h = c.loop-test.true in
    let read = rw c.in_default.is at c.read_tag.ensures.result_value in
    absurd (rest-there decode_tag _ _ _ c.requires _ _ h c.loop.invariant.reached read)

pub returns-in_default-clause-bytes : goal.returns-in_default-clause-bytes
returns-in_default-clause-bytes c =
    let h = c.loop-test.true in
    let read = rw c.in_default.is at c.read_tag.ensures.result_value in
    absurd (rest-there decode_tag _ _ _ c.requires _ _ h c.loop.invariant.reached read)

pub kept_bytes-kept-requires : goal.kept_bytes-kept-requires
kept_bytes-kept-requires c =
    let s = c.args.s.now in
    let bytes = slice-bytes s c.type_inv.s in
    let read = c.in-Ok.ensures.result_value in
    omega (arith, (tag-place s bytes c.loop.next.at read).0)

pub loop-preserved : goal.loop-preserved
loop-preserved c =
    let s = c.args.s.now in
    let bytes = slice-bytes s c.type_inv.s in
    let read = c.in-Ok.ensures.result_value in
    let h = c.loop-test.true in
    let kept = c.kept_bytes-kept.ensures in
    measured-next s _ _ bytes c.requires _ _ _ _ h c.loop.invariant read _ kept _ c.kept_count-count.ensures

pub returns-clause-count : goal.returns-clause-count
returns-clause-count c = (measured-all _ _ _ _ _ _ _ c.loop.invariant c.loop-test.false).0

pub returns-clause-bytes : goal.returns-clause-bytes
returns-clause-bytes c = (measured-all _ _ _ _ _ _ _ c.loop.invariant c.loop-test.false).1
