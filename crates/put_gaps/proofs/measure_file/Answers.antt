-- The numbers of the new file from those of the two old ones (`old` of Lengths).
use Rattle.put_gaps.proofs.Lengths.{old, record-pairs}
use Rattle.put_gaps.proofs.Pieces.{length-regapped}
use Rattle.gap_numbers.specs.NumberSteps.{gaps_in}
use Rattle.met.specs.MetAnswers.{tags_place}
use Rattle.tags.specs.TagAnswers.{tags_in}
use Rattle.wire.proofs.Replies.{slice-bytes}
use native.Mathlib.Omega.{arith}
use mathlib.Core.Path.{◌∙◌}
use Rattle.put_gaps.proofs.measure_file.Goals as goal

pub sizes_of-requires : goal.sizes_of-requires
sizes_of-requires c =
    let s = c.args.form_file.now in
    let form = old s (slice-bytes s c.type_inv.form_file) c.args.form c.requires.0 in
    let f = c.args.file.now in
    let part = old f (slice-bytes f c.type_inv.file) c.args.part c.requires.1.read in
    let at = c.tags_at-at.ensures in
    let after = c.tail_at-after.ensures in (
      omega (arith, form.at, at, after),
      omega (arith, form.all, after),
      omega (arith, form.few),
      omega (arith, part, (rw c.tags-tags.ensures at c.measure_kept-kept.ensures.count)),
      omega (arith, part, (rw c.tags-tags.ensures at c.measure_kept-kept.ensures.bytes)),
      c.requires.2.1.0,
    )

pub returns : goal.returns
returns c =
    let s = c.args.form_file.now in
    let form = old s (slice-bytes s c.type_inv.form_file) c.args.form c.requires.0 in
    let at = c.tags_at-at.ensures in
    let after = c.tail_at-after.ensures in
    let numbers = c.args.gaps.now in
    let pairs = record-pairs numbers c.requires.2.1.0 in
    let count = length-regapped (gaps_in numbers) (tags_in c.args.file.now (tags_place c.args.part)) in
    let r = c.sizes_of.ensures in
    record {
      at = omega (arith, r.0, at, form.at);
      count = omega (arith, r.1, (rw c.tags-tags.ensures at c.measure_kept-kept.ensures.count), count, pairs.0);
      list = omega (arith, r.2, (rw c.tags-tags.ensures at c.measure_kept-kept.ensures.bytes), pairs.1);
      within = r.3 ∙ c.measure_kept-kept.ensures.within;
      after = r.4 ∙ after;
      length = omega (arith, r.0, r.5, at, after, form.at, form.all);
    }
