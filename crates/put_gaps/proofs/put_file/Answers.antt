-- Too long or no room: nothing is written. Else head, tag list and tail are written one after the other (`new_pieces` of Lengths).
use Rattle.put_gaps.proofs.Lengths.{head_bytes, tail-bytes, new-length, new_pieces, above-ceiling, no_room, written}
use Rattle.put_gaps.proofs.Pieces.{length-list}
use Rattle.put_gaps.specs.Pieces.{head_of, tail_of}
use Rattle.output.proofs.Laws.{after}
use Rattle.met.specs.MetAnswers.{part_met_in, tags_place}
use Rattle.gaps.specs.GapRecords.{gaps_of}
use Rattle.gap_numbers.specs.Numbers.{held}
use Rattle.wire.proofs.Replies.{slice-bytes}
use Rattle.tags.specs.TagAnswers.{tags_in}
use Rattle.format.specs.Rules.{Bytes}
use Rattle.format.specs.Writing.{overwritten}
use Rattle.format.specs.PutGaps.{regapped, with_gaps}
use Rattle.format.specs.Layout.{encode_part_met, encode_tags}
use lib.ListN.{length, length-append, length-take, length-drop}
use native.Mathlib.Omega.{arith}
use mathlib.Core.List.{◌++◌}
use mathlib.Core.Path.{◌≡◌, sym, ap, ◌∙◌}
use Rattle.put_gaps.proofs.put_file.Goals as goal
use Rattle.put_gaps.proofs.put_file.Goals.{After-measure_file-sizes}

bytes : (c : After-measure_file-sizes) → Bytes c.args.file.now
bytes c = slice-bytes c.args.file.now c.type_inv.file

length-new : (c : After-measure_file-sizes) → c.measure_file-sizes.result.length ≡ length (encode_part_met (with_gaps (gaps_of (held c.args.gaps.now)) (part_met_in c.args.file.now c.args.part)))
length-new c =
    let z = c.measure_file-sizes.ensures in
    omega (arith, z.at, z.list, z.length, new-length c.args.file.now (bytes c) c.args.part c.requires.0.read (gaps_of (held c.args.gaps.now)))

pub returns-then-length-gt-MET_CEILING : goal.returns-then-length-gt-MET_CEILING
returns-then-length-gt-MET_CEILING c = above-ceiling _ _ _ (length-new (goal.at.returns-then-length-gt-MET_CEILING c).After-measure_file-sizes) c.if-length-gt-MET_CEILING.true

pub returns-then-out-length : goal.returns-then-out-length
returns-then-out-length c = no_room _ _ _ (length-new (goal.at.returns-then-out-length c).After-measure_file-sizes) c.if-length-gt-MET_CEILING.false c.if-out-length.true

pub copy-requires-2 : goal.copy-requires-2
copy-requires-2 c =
    let z = c.measure_file-sizes.ensures in
    let tail = tail-bytes c.args.file.now (bytes (goal.at.copy-requires-2 c).After-measure_file-sizes) c.args.part c.requires.0.read in
    rw (c.bytes_at-2.ensures, z.after, tail) (simp (length-take, length-drop) (omega (arith, z.length, c.if-out-length.false)))

pub returns : goal.returns
returns c =
    let part = c.args.part in
    let z = c.measure_file-sizes.ensures in
    let old-head = head_of (part_met_in c.args.file.now part) in
    let old-tail = tail_of (part_met_in c.args.file.now part) in
    let old-tags = tags_in c.args.file.now (tags_place part) in
    let list = encode_tags (regapped (gaps_of (held c.args.gaps.now)) old-tags) in
    let head = rw (c.bytes_at.ensures, z.at, head_bytes c.args.file.now (bytes (goal.at.returns c).After-measure_file-sizes) part c.requires.0.read) at c.copy.ensures in
    let tags = rw c.tags.ensures at c.put_tag_list.ensures.output in
    let tail =
    rw (c.bytes_at-2.ensures, z.after, tail-bytes c.args.file.now (bytes (goal.at.returns c).After-measure_file-sizes) part c.requires.0.read) at
    c.copy-2.ensures in
    let first = after old-head list _ _ _ _ (sym z.at) head tags in
    let length-first = length-append old-head list in
    let place = length-list (gaps_of (held c.args.gaps.now)) old-tags in
    let last = after (old-head ++ list) old-tail _ _ _ _ (omega (arith, length-first, place, z.at, z.list)) first tail in
    written _ c.args.out.now _ (length-new (goal.at.returns c).After-measure_file-sizes) c.if-length-gt-MET_CEILING.false c.if-out-length.false _
    (last ∙ ap (λ l. overwritten l c.args.out.now) (sym (new_pieces c.args.file.now (bytes (goal.at.returns c).After-measure_file-sizes) part c.requires.0.read (gaps_of (held c.args.gaps.now)))))
