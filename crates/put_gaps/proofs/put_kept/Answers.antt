-- The tags before the range, those in it that stay, and the tags after it are written one after the other (`kept_pieces` of Range).
use Rattle.std.proofs.Common.{rules}
use Rattle.put_gaps.proofs.Range.{placed-range, kept_pieces, spans}
use Rattle.put_gaps.specs.Pieces.{plain_bytes}
use Rattle.output.proofs.Laws.{after}
use Rattle.wire.proofs.Replies.{slice-bytes}
use Rattle.tags.specs.TagAnswers.{tags_in}
use Rattle.format.specs.Decoding.{bytes_at}
use Rattle.format.specs.Writing.{overwritten}
use lib.ListN.{length-append, length-take, length-drop}
use native.Mathlib.Omega.{arith}
use mathlib.Core.List.{◌++◌}
use mathlib.Core.Path.{ap, ◌∙◌}
use Prim.Native.Nat.{◌-◌}
use Rattle.put_gaps.proofs.put_kept.Goals as goal

pub overflow_sub-before : goal.overflow_sub-before
overflow_sub-before c = (spans _ (slice-bytes _ c.type_inv.s) _ _ c.requires.0 c.requires.1).first

pub copy-requires : goal.copy-requires
copy-requires c =
    let n = spans _ (slice-bytes _ c.type_inv.s) _ _ c.requires.0 c.requires.1 in
    rw c.bytes_at.ensures (omega (arith, n.run, n.summed, c.requires.3))

pub slice_bounds-put_within-count : goal.slice_bounds-put_within-count
slice_bounds-put_within-count c = let n = spans _ (slice-bytes _ c.type_inv.s) _ _ c.requires.0 c.requires.1 in search rules

pub slice_bounds-put_within-start : goal.slice_bounds-put_within-start
slice_bounds-put_within-start c = let n = spans _ (slice-bytes _ c.type_inv.s) _ _ c.requires.0 c.requires.1 in search rules

pub put_within-requires : goal.put_within-requires
put_within-requires c =
    let bytes = slice-bytes _ c.type_inv.s in
    let r = c.requires in
    let n = spans _ bytes _ _ r.0 r.1 in
    (placed-range _ bytes _ _ r.0 r.1, r.2, simp (length-take, length-drop) (omega (arith, n.summed, r.2, r.3)))

pub overflow_sub-after : goal.overflow_sub-after
overflow_sub-after c = (spans _ (slice-bytes _ c.type_inv.s) _ _ c.requires.0 c.requires.1).last

pub slice_bounds-copy-count : goal.slice_bounds-copy-count
slice_bounds-copy-count c = let n = spans _ (slice-bytes _ c.type_inv.s) _ _ c.requires.0 c.requires.1 in search rules

pub slice_bounds-copy-start : goal.slice_bounds-copy-start
slice_bounds-copy-start c = let n = spans _ (slice-bytes _ c.type_inv.s) _ _ c.requires.0 c.requires.1 in search rules

pub copy-requires-2 : goal.copy-requires-2
copy-requires-2 c =
    let n = spans _ (slice-bytes _ c.type_inv.s) _ _ c.requires.0 c.requires.1 in
    rw c.bytes_at-2.ensures (simp (length-take, length-drop) (omega (arith, n.summed, c.requires.2, c.requires.3)))

pub returns-clause-written : goal.returns-clause-written
returns-clause-written c = let n = spans _ (slice-bytes _ c.type_inv.s) _ _ c.requires.0 c.requires.1 in omega (arith, n.summed, c.requires.2)

pub returns-clause-output : goal.returns-clause-output
returns-clause-output c =
    let s = c.args.s.now in
    let bytes = slice-bytes s c.type_inv.s in
    let tags = c.args.tags in
    let range = c.args.range in
    let n = spans s bytes tags range c.requires.0 c.requires.1 in
    let first = bytes_at s tags.at (range.at - tags.at) in
    let plain = plain_bytes (tags_in s range) in
    let last = bytes_at s range.end (tags.end - range.end) in
    let head = rw c.bytes_at.ensures at c.copy.ensures in
    let two = after first plain _ _ _ _ n.run head c.put_within.ensures in
    let tail = rw c.bytes_at-2.ensures at c.copy-2.ensures in
    let all = after (first ++ plain) last _ _ _ _ (omega (arith, length-append first plain, n.run, c.requires.2)) two tail in
    all ∙ ap (λ l. overwritten l c.args.out.now) (kept_pieces s bytes tags range c.requires.0 c.requires.1)
