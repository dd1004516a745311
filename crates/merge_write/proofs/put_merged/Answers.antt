-- Too long or no room: nothing is written. Else head, tag list and tail are written one after the other (`joined-pieces` of Joined).
use Rattle.merge_write.proofs.Joined.{joined-pieces, length-dated, length-first, length-joined}
use Rattle.merge_write.specs.Outcome.{dated_head, joined}
use Rattle.put_gaps.proofs.Lengths.{tail-bytes, above-ceiling, no_room, written}
use Rattle.put_gaps.specs.Pieces.{tail_of}
use Rattle.output.proofs.Laws.{after}
use Rattle.met.specs.MetAnswers.{part_met_in, tags_place}
use Rattle.gaps.specs.GapRecords.{gaps_of}
use Rattle.gap_numbers.specs.Numbers.{held}
use Rattle.wire.proofs.Replies.{slice-bytes}
use Rattle.tags.specs.TagAnswers.{tags_in}
use Rattle.format.specs.Rules.{Bytes}
use Rattle.format.specs.Writing.{overwritten}
use Rattle.format.specs.PutGaps.{regapped}
use Rattle.format.specs.Layout.{encode_part_met, encode_tags}
use lib.ListN.{length, length-take, length-drop}
use native.Mathlib.Omega.{arith}
use mathlib.Core.List.{◌++◌}
use mathlib.Core.Path.{◌≡◌, sym, ap, ◌∙◌}
use Rattle.merge_write.proofs.put_merged.Goals as goal
use Rattle.merge_write.proofs.put_merged.Goals.{After-measure_file-sizes}

bytes : (c : After-measure_file-sizes) → Bytes c.args.form_file.now
bytes c = slice-bytes c.args.form_file.now c.type_inv.form_file

length-new : (c : After-measure_file-sizes) → c.measure_file-sizes.result.length ≡ length (encode_part_met (joined (part_met_in c.args.form_file.now c.args.form) c.args.date (part_met_in c.args.file.now c.args.part) (gaps_of (held c.args.gaps.now))))
length-new c =
    let z = c.measure_file-sizes.ensures in
    omega (arith, z.at, z.list, z.length, length-joined c.args.form_file.now c.args.form c.args.date c.args.file.now c.args.part (gaps_of (held c.args.gaps.now)))

pub returns-then-length-gt-MET_CEILING : goal.returns-then-length-gt-MET_CEILING
returns-then-length-gt-MET_CEILING c = above-ceiling _ _ _ (length-new (goal.at.returns-then-length-gt-MET_CEILING c).After-measure_file-sizes) c.if-length-gt-MET_CEILING.true

pub returns-then-out-length : goal.returns-then-out-length
returns-then-out-length c = no_room _ _ _ (length-new (goal.at.returns-then-out-length c).After-measure_file-sizes) c.if-length-gt-MET_CEILING.false c.if-out-length.true

pub copy-requires : goal.copy-requires
copy-requires c =
    let room = c.if-out-length.false in
    let z = c.measure_file-sizes.ensures in
    let tail = tail-bytes c.args.form_file.now (bytes (goal.at.copy-requires c).After-measure_file-sizes) c.args.form c.requires.0 in
    rw (c.bytes_at.ensures, z.after, tail) (simp (length-take, length-drop) (omega (arith, z.length)))

pub returns : goal.returns
returns c =
    let a = c.args in
    let z = c.measure_file-sizes.ensures in
    let head = dated_head (part_met_in c.args.form_file.now a.form) a.date in
    let list = encode_tags (regapped (gaps_of (held c.args.gaps.now)) (tags_in c.args.file.now (tags_place a.part))) in
    let tags = rw c.tags.ensures at c.put_tag_list.ensures.output in
    let tail =
    rw (c.bytes_at.ensures, z.after, tail-bytes c.args.form_file.now (bytes (goal.at.returns c).After-measure_file-sizes) a.form c.requires.0) at
    c.copy.ensures in
    let first = after head list _ _ _ _ (length-dated (part_met_in c.args.form_file.now a.form) a.date ∙ sym z.at) c.put_head.ensures tags in
    let place = length-first c.args.form_file.now a.form a.date c.args.file.now a.part (gaps_of (held c.args.gaps.now)) in
    let last = after (head ++ list) (tail_of (part_met_in c.args.form_file.now a.form)) _ _ _ _ (omega (arith, place, z.at, z.list)) first tail in
    let all = joined-pieces c.args.form_file.now a.form a.date c.args.file.now a.part (gaps_of (held c.args.gaps.now)) in
    written _ a.out.now _ (length-new (goal.at.returns c).After-measure_file-sizes) c.if-length-gt-MET_CEILING.false c.if-out-length.false _
    (last ∙ ap (λ bytes. overwritten bytes a.out.now) (sym all))
