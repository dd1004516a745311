-- After i tags those of them that stay are written (`Copied` of Kept).
use Rattle.put_gaps.proofs.Kept.{copied-room, copied_next, copied_all, tag-place}
use Rattle.part_tags.proofs.Rest.{rest-there}
use Rattle.wire.proofs.Replies.{slice-bytes}
use Rattle.format.specs.Order.{decode_tag}
use lib.ListN.{length-drop, length-take}
use native.Mathlib.Omega.{arith}
use Rattle.put_gaps.proofs.put_plain.Goals as goal

pub returns-in_default-clause-written : goal.returns-in_default-clause-written
returns-in_default-clause-written c =
    let h = c.loop-test.true in
    let read = rw c.in_default.is at c.read_tag.ensures.result_value in
    absurd (rest-there decode_tag _ _ _ c.requires.0 _ _ h c.loop.invariant.reached read)

pub returns-in_default-clause-output : goal.returns-in_default-clause-output
returns-in_default-clause-output c =
    let h = c.loop-test.true in
    let read = rw c.in_default.is at c.read_tag.ensures.result_value in
    absurd (rest-there decode_tag _ _ _ c.requires.0 _ _ h c.loop.invariant.reached read)

pub kept_bytes-kept-requires : goal.kept_bytes-kept-requires
kept_bytes-kept-requires c =
    let s = c.args.s.now in
    let bytes = slice-bytes s c.type_inv.s in
    let read = c.in-Ok.ensures.result_value in
    omega (arith, (tag-place s bytes c.loop.next.at read).0)

pub copy-requires : goal.copy-requires
copy-requires c =
    let s = c.args.s.now in
    let bytes = slice-bytes s c.type_inv.s in
    let read = c.in-Ok.ensures.result_value in
    let old = c.args.out.now in
    let kept = c.kept_bytes-kept.ensures in
    let room = copied-room s _ _ bytes c.requires.0 old _ c.requires.1 _ _ _ c.loop-test.true c.loop.invariant read _ kept in
    simp (length-take, length-drop) (omega (arith, room, c.loop.invariant.written.same_length, c.requires.1))

pub loop-preserved : goal.loop-preserved
loop-preserved c =
    let s = c.args.s.now in
    let bytes = slice-bytes s c.type_inv.s in
    let read = c.in-Ok.ensures.result_value in
    let old = c.args.out.now in
    let kept = c.kept_bytes-kept.ensures in
    let h = c.loop-test.true in
    copied_next s _ _ bytes c.requires.0 old _ c.requires.1 _ _ _ h c.loop.invariant read _ kept _ c.copy.ensures

pub returns-clause-written : goal.returns-clause-written
returns-clause-written c = (copied_all _ _ _ _ _ _ _ _ c.loop.invariant c.loop-test.false).0

pub returns-clause-output : goal.returns-clause-output
returns-clause-output c = (copied_all _ _ _ _ _ _ _ _ c.loop.invariant c.loop-test.false).1
