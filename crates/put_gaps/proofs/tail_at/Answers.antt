-- The head, and the bytes of the tags that were read after their count (`old` of Lengths).
use Prim.Native.Nat.{◌+◌, ◌-◌, ◌≤◌}
use mathlib.Core.Path.{◌≡◌, ap}
use lib.ListN.{length}
use native.Mathlib.Omega.{arith}
use Rattle.format.specs.Layout.{encode_tags}
use Rattle.wire.specs.declared.Items.{Items}
use Rattle.wire.proofs.Replies.{slice-bytes}
use Rattle.tags.specs.TagAnswers.{tags_in}
use Rattle.met.specs.MetAnswers.{part_met_in, tags_place}
use Rattle.put_gaps.specs.Pieces.{head_of}
use Rattle.put_gaps.proofs.Lengths.{old}
use Rattle.put_gaps.proofs.tail_at.Goals as goal
use Rattle.put_gaps.proofs.tail_at.Goals.{After-tags_at-at}

lies : (c : After-tags_at-at) → let s = c.args.file.now in let part = c.args.part in
    (c.tags-tags.result.at ≤ c.tags-tags.result.end) × (((c.tags_at-at.result + 4 + (c.tags-tags.result.end - c.tags-tags.result.at))) ≤ length s) × (((c.tags_at-at.result + 4 + (c.tags-tags.result.end - c.tags-tags.result.at))) ≡ length (head_of (part_met_in s part)) + length (encode_tags (tags_in s (tags_place part))))
lies c =
    let s = c.args.file.now in
    let o = old s (slice-bytes s c.type_inv.file) c.args.part c.requires in
    let first = ap (λ (l : Items). l.at) c.tags-tags.ensures in
    let last = ap (λ (l : Items). l.end) c.tags-tags.ensures in
    let at = c.tags_at-at.ensures in
    (omega (arith, o.end, first, last), omega (arith, o, first, last, at), omega (arith, o, first, last, at))

pub overflow_sub-result : goal.overflow_sub-result
overflow_sub-result c = (lies (goal.at.overflow_sub-result c).After-tags_at-at).0

pub returns : goal.returns
returns c = (lies (goal.at.returns c).After-tags_at-at).2
