-- The part hashes of two E0 files; the tails of two E1 files (Forms).
use Rattle.wire.proofs.Replies.{slice-bytes}
use Rattle.put_gaps.proofs.Lengths.{tail-bytes}
use Rattle.merge_compare.proofs.Answers.{says}
use Rattle.merge_compare.proofs.Forms.{e0-forms, e1-forms}
use Rattle.merge_compare.proofs.same_form.Goals as goal

pub returns-in-E0-other : goal.returns-in-E0-other
returns-in-E0-other c =
    let one = rw (c.in-E0.is, c.in-E0-other.is) at c.requires in
    let hashes = rw (c.hashes_in.ensures, c.hashes_in-in-E0-other.ensures) at c.same.ensures in
    rw (c.in-E0.is, c.in-E0-other.is) (says hashes (e0-forms _ _ _ _ one))

pub returns-in-E1-other-2 : goal.returns-in-E1-other-2
returns-in-E1-other-2 c =
    let s = c.args.s.now in
    let t = c.args.t.now in
    let tail = tail-bytes s (slice-bytes s c.type_inv.s) c.args.part c.requires.read in
    let other-tail = tail-bytes t (slice-bytes t c.type_inv.t) c.args.other c.requires.other_read in
    let tails =
    rw (c.bytes_at-in-E1-other-2.ensures, c.tail_at-in-E1-other-2.ensures, other-tail, c.bytes_at.ensures, c.tail_at.ensures, tail) at
    c.same-in-E1-other-2.ensures in
    let one = rw (c.in-E1.is, c.in-E1-other-2.is) at c.requires in
    let same-tails = rw (c.in-E1.is, c.in-E1-other-2.is) at tails in
    rw (c.in-E1.is, c.in-E1-other-2.is) (says same-tails (e1-forms _ _ _ _ one))
