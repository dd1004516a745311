-- Where no other tag stands among the gap tags, the tags that are no gap tags are two runs of bytes, before the gap tags and after them.
use Prim.Native.Nat.{ℕ, ◌+◌, ◌*◌, ◌≤◌}
use mathlib.Core.Path.{◌≡◌, sym, ap, ◌∙◌, subst}
use mathlib.Core.Logic.{◌↔◌}
use mathlib.Core.List.{List, ◌++◌, append-nil}
use lib.ListN.{drop_of_length-le, length}
use Rattle.format.specs.Layout.{encode_all, encode_tag}
use Rattle.format.specs.Rules.{All, Bytes, ValidTag}
use Rattle.format.specs.Order.{decode_tag}
use Rattle.format.specs.PutGaps.{plain_tags, tags_of}
use Rattle.format.proofs.Regapped.{all_plain, valid-tags}
use Rattle.wire.specs.declared.Items.{Items}
use Rattle.wire.specs.WireAnswers.{ItemsInside, ItemsPlaced}
use Rattle.tags.specs.TagAnswers.{tags_in}
use Rattle.met.specs.declared.PartGaps.{PartGaps}
use Rattle.met.specs.declared.PartMet.{PartMet}
use Rattle.met.specs.MetAnswers.{part_met_in, tags_place}
use Rattle.put_gaps.specs.Pieces.{Accepts, plain_bytes}
use Rattle.put_gaps.proofs.Lengths.{tags-inside, tags-same}
use Rattle.put_gaps.proofs.Range.{kept_pieces, pairs-out, placed-range, spans}
use Rattle.merge_compare.specs.Compared.{spec_run_after, spec_run_before}
use Rattle.merge_compare.proofs.Encodings.{same-tag-lists}

module _ (s : List ℕ) (bytes : Bytes s) (part : PartMet) (gaps : PartGaps) (h : Accepts s part gaps) where
  abbrev tags : Items
  tags = tags_place part

  abbrev range : Items
  range = gaps.range

  inside : ItemsInside decode_tag s tags
  inside = tags-inside s part h.read

  pub measurable : ItemsPlaced decode_tag s range × (gaps.count ≤ 64) × (2 * gaps.count + length (plain_tags (tags_in s range)) ≤ range.count)
  measurable = (
    placed-range s bytes tags range inside h.ranged,
    h.counted.few,
    pairs-out s bytes tags range inside h.ranged gaps.count h.counted,
  )

  pub range-within : (tags.at ≤ range.at) × (range.end ≤ tags.end)
  range-within = let n = spans s bytes tags range inside h.ranged in (n.first, n.last)

  plain-valid : All ValidTag (plain_tags (tags_in s tags))
  plain-valid = all_plain ValidTag (tags_in s tags) (subst (All ValidTag) (tags-same s part) (valid-tags (part_met_in s part) h.read.valid.content).1)

  two_runs : length (plain_bytes (tags_in s range)) ≤ 0 → spec_run_before s part gaps ++ spec_run_after s part gaps ≡ encode_all encode_tag (plain_tags (tags_in s tags))
  unfolding plain_bytes
  two_runs z =
      let before = spec_run_before s part gaps in
      let none = drop_of_length-le (plain_bytes (tags_in s range)) {i = 0} z in
      ap (λ l. l ++ spec_run_after s part gaps) (sym (append-nil before) ∙ ap (λ l. before ++ l) (sym none)) ∙
      kept_pieces s bytes tags range inside h.ranged

pub by_runs : (s : List ℕ) (bytes : Bytes s) (part : PartMet) (gaps : PartGaps) → Accepts s part gaps →
    (t : List ℕ) (other-bytes : Bytes t) (other : PartMet) (other-gaps : PartGaps) → Accepts t other other-gaps →
    length (plain_bytes (tags_in s gaps.range)) ≤ 0 → length (plain_bytes (tags_in t other-gaps.range)) ≤ 0 →
    (spec_run_before s part gaps ++ spec_run_after s part gaps ≡ spec_run_before t other other-gaps ++ spec_run_after t other other-gaps) ↔
    (plain_tags (tags_of (part_met_in s part)) ≡ plain_tags (tags_of (part_met_in t other)))
by_runs s bytes part gaps h t other-bytes other other-gaps j z y =
    let mine = two_runs s bytes part gaps h z in
    let others = two_runs t other-bytes other other-gaps j y in
    rw (tags-same s part, tags-same t other) (
      λ e. same-tag-lists _ _ (plain-valid s bytes part gaps h) (plain-valid t other-bytes other other-gaps j) (sym mine ∙ e ∙ others),
      λ e. mine ∙ ap (encode_all encode_tag) e ∙ sym others,
    )
