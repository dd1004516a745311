-- The files are of one model (`model`), form and tags have a winner (`form-chosen`, `tags-chosen`), and the merged gaps are few (`few`).
use Rattle.merge.proofs.Models.{no-model, same-sizes}
use Rattle.merge.proofs.Numbers.{merged-held, merged-lawful, sized_of}
use Rattle.merge.proofs.Outcomes.{date-in, refused-none, too_many, within-limits}
use Rattle.merge.specs.Choices.{SameSizes, part_from, save_of}
use Rattle.format.specs.PutGaps.{plain_tags, tags_of}
use Rattle.format.specs.Merging.{FormChoice, OneModel, TagsChoice, conflicts, form_of, gaps_left, strangers}
use Rattle.format.proofs.Merging.{gaps-lawful}
use lib.ListN.{length, get_or, replicate}
use native.Mathlib.Omega.{arith}
use Prim.Native.Nat.{◌≤◌, max}
use mathlib.Core.Logic.{inl, inr}
use mathlib.Core.Option.{some}
use mathlib.Core.Path.{ap, ap₂}
use Rattle.merge.proofs.merge_read.Goals as goal
use Rattle.merge.proofs.merge_read.Goals.{In_ok-tags, Else-not-is_one_model, Else-numbers-gt-GAP_LIMIT}

model : (c : Else-not-is_one_model) → OneModel c.args.opened.gaps.size (part_from c.args.opened) (part_from c.args.first) (part_from c.args.second)
model c = c.is_one_model.ensures.0 (c.if-not-is_one_model.false)

sizes : (c : Else-not-is_one_model) → SameSizes c.args.opened c.args.first c.args.second
sizes c =
    let model : (OneModel c.args.opened.gaps.size (part_from c.args.opened) (part_from c.args.first) (part_from c.args.second)) = c.is_one_model.ensures.0 (c.if-not-is_one_model.false) in
    let a = c.args in
    same-sizes a.opened a.first a.second c.requires.1.reads c.requires.2.reads (model)

form-chosen : (c : In_ok-tags) → FormChoice (part_from c.args.opened) (part_from c.args.first) (part_from c.args.second) (some (save_of c.in_ok-form.form (form_of (part_from c.args.first)) (form_of (part_from c.args.second))))
form-chosen c = rw c.in_ok-form.ensures.ok_part at c.choose_form.ensures

tags-chosen : (c : In_ok-tags) → TagsChoice (part_from c.args.opened) (part_from c.args.first) (part_from c.args.second)
    (some (save_of c.in_ok-tags.tags (plain_tags (tags_of (part_from c.args.first))) (plain_tags (tags_of (part_from c.args.second)))))
tags-chosen c = rw c.in_ok-tags.ensures.ok_part at c.choose_tags.ensures

few : (c : Else-numbers-gt-GAP_LIMIT) → length ((gaps_left c.args.opened.gaps.size (part_from c.args.opened) (part_from c.args.first) (part_from c.args.second))) ≤ 64
few c = omega (arith, c.if-numbers-gt-GAP_LIMIT.false, ap (λ l. get_or l 1 0) c.merge_numbers.ensures)

pub returns-then-not-is_one_model : goal.returns-then-not-is_one_model
returns-then-not-is_one_model c =
    let e = c.requires in
    strangers (no-model _ _ _ _ _ c.is_one_model.ensures (sized_of c.args.opened e.0.reads) (c.if-not-is_one_model.true))

pub choose_form-requires : goal.choose_form-requires
choose_form-requires c =
    let e = c.requires in
    (e.0.reads, e.1.reads, e.2.reads, sizes (goal.at.choose_form-requires c).Else-not-is_one_model)

pub returns-in_err-form : goal.returns-in_err-form
returns-in_err-form c =
    let none = c.in_err-form.ensures in
    rw (refused-none _ _ c.from_residual.ensures.1 none.value none.ok_part)
    (conflicts _ (model (goal.at.returns-in_err-form c).Else-not-is_one_model) (inl (rw none.ok_part at c.choose_form.ensures)))

pub returns-in_err-tags : goal.returns-in_err-tags
returns-in_err-tags c =
    let none = c.in_err-tags.ensures in
    rw (refused-none _ _ c.from_residual-in_err-tags.ensures.1 none.value none.ok_part)
    (conflicts _ (model (goal.at.returns-in_err-tags c).Else-not-is_one_model) (inr (rw none.ok_part at c.choose_tags.ensures)))

pub merge_numbers-requires : goal.merge_numbers-requires
merge_numbers-requires c =
    let e = c.requires in
    (e.0, e.1, e.2, sizes (goal.at.merge_numbers-requires c).Else-not-is_one_model, omega arith)

pub returns-then-numbers-gt-GAP_LIMIT : goal.returns-then-numbers-gt-GAP_LIMIT
returns-then-numbers-gt-GAP_LIMIT c =
    let count = ap (λ l. get_or l 1 0) c.merge_numbers.ensures in
    (too_many _ _ _ _ (model (goal.at.returns-then-numbers-gt-GAP_LIMIT c).Else-not-is_one_model) c.in_ok-form.form c.in_ok-tags.tags _ (form-chosen (goal.at.returns-then-numbers-gt-GAP_LIMIT c).In_ok-tags) (tags-chosen (goal.at.returns-then-numbers-gt-GAP_LIMIT c).In_ok-tags) (omega (arith, c.if-numbers-gt-GAP_LIMIT.true, count)))

pub put_chosen-requires : goal.put_chosen-requires
put_chosen-requires c =
    let e = c.requires in
    let valid = gaps-lawful _ _ _ _ e.0.reads.read.valid.content e.1.reads.read.valid.content e.2.reads.read.valid.content (model (goal.at.put_chosen-requires c).Else-not-is_one_model) (few (goal.at.put_chosen-requires c).Else-numbers-gt-GAP_LIMIT) in
    (e.1.reads, e.2.reads, merged-lawful _ _ (few (goal.at.put_chosen-requires c).Else-numbers-gt-GAP_LIMIT) _ (replicate 386 0) c.merge_numbers.ensures (omega arith) valid)

pub returns : goal.returns
returns c =
    let a = c.args in
    let held = merged-held _ _ (few (goal.at.returns c).Else-numbers-gt-GAP_LIMIT) _ (replicate 386 0) c.merge_numbers.ensures in
    within-limits _ _ _ _ (model (goal.at.returns c).Else-not-is_one_model) c.in_ok-form.form c.in_ok-tags.tags _ (form-chosen (goal.at.returns c).In_ok-tags) (tags-chosen (goal.at.returns c).In_ok-tags) (few (goal.at.returns c).Else-numbers-gt-GAP_LIMIT)
    _ (ap₂ max (date-in a.first.bytes.now a.first.part) (date-in a.second.bytes.now a.second.part)) _ held _ c.put_chosen.ensures
