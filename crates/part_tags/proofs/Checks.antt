-- The check of a list that was surveyed: the size, then the scan of the range of its gap tags.
use Prim.Native.Nat.{ℕ, ◌-◌, ◌≤◌}
use mathlib.Core.Path.{◌≡◌, refl, sym, ap, subst, ◌∙◌}
use mathlib.Core.List.{List, [], ◌++◌, append-nil}
use lib.ListN.{length}
use native.Mathlib.Omega.{arith}
use Rattle.std.specs.Prelude.{None, Some, Ok, Err}
use Rattle.format.specs.Messages.{Tag}
use Rattle.format.specs.Decoding.{decode_many, ends, got, items_of, passes, violates}
use Rattle.format.specs.Gaps.{gap_limit}
use Rattle.format.specs.Order.{decode_tag}
use Rattle.format.specs.PartTagOrder.{between, spec_check_part_tags, scan, sizes, sole}
use Rattle.format.proofs.PartTags.{gaps-found}
use Rattle.wire.specs.declared.Items.{Items}
use Rattle.wire.specs.declared.Rule.{Rule}
use Rattle.wire.specs.WireAnswers.{items_in, ItemsPlaced, rule_meaning}
use Rattle.part_tags.specs.declared.Leading.{Leading}
use Rattle.part_tags.specs.declared.Sizes.{Sizes}
use Rattle.part_tags.specs.declared.Surveyed.{Surveyed}
use Rattle.part_tags.specs.Survey.{GapTagsIn, LeadingTags, Sized, only_size, sole_after, list_at, SurveyedTags}
use Rattle.part_tags.specs.Pairs.{first_pairs, PairsInside, PassedTags}
use Rattle.part_tags.specs.PartTagAnswers.{TagsChecked}
use Rattle.part_tags.proofs.SizeTags.{only_none, only-some, size_same}
use Rattle.part_tags.proofs.Ranges.{many-append, whole}
use Rattle.part_tags.proofs.GapTags.{gaps-of-pairs, scan-range}

-- The scan of a list is that of the range of its gap tags.
range-scan : (s : List ℕ) (tags range : Items) → GapTagsIn s tags range → (size : ℕ)
    → scan size (between []) (items_in decode_tag s tags) ≡ scan size (between []) (items_in decode_tag s range)
range-scan s tags range g size =
    ap (scan size (between [])) g.all ∙ scan-range size g.pre g.mid g.post g.pre-plain g.post-plain
    ∙ ap (scan size (between [])) (sym (ap items_of g.mid-read))

module _ (s : List ℕ) (at count : ℕ) (v : Surveyed) (h : SurveyedTags s at count v) where
  abbrev tags : List Tag
  tags = items_in decode_tag s (list_at at count v)

  all-sizes : sole (sizes tags) ≡ sole_after v.sizes []
  all-sizes = ap sole (sym (append-nil (sizes tags))) ∙ h.sized []

  pub range-placed : ItemsPlaced decode_tag s v.range
  unfolding ends
  range-placed = ap ends h.gap-tags.mid-read

  all-scan : (size : ℕ) → scan size (between []) tags ≡ scan size (between []) (items_in decode_tag s v.range)
  all-scan = range-scan s (list_at at count v) v.range h.gap-tags

  -- not one size tag
  pub checked-unsized : (starts : List ℕ) → None ≡ only_size v.sizes
      → TagsChecked s at count starts (record { end = v.end; verdict = Err Rule.SizeTag; range = v.range; gaps = 0 })
  unfolding spec_check_part_tags PairsInside
  checked-unsized starts e = record {
    placed = h.placed;
    range = h.gap-tags;
    verdict = sym (rw (all-sizes ∙ only_none v.sizes e) refl);
    few = omega arith;
    inside = tt;
    gaps = tt;
  }

  module _ (starts : List ℕ) (size : ℕ) (one : Some size ≡ only_size v.sizes) where
    found : sole (sizes tags) ≡ passes size
    found = all-sizes ∙ only-some v.sizes one

    -- a gap tag that breaks a rule
    pub checked-stopped : (rule : Rule) → scan size (between []) (items_in decode_tag s v.range) ≡ violates (rule_meaning rule)
        → TagsChecked s at count starts (record { end = v.end; verdict = Err rule; range = v.range; gaps = 0 })
    unfolding spec_check_part_tags PairsInside
    checked-stopped rule e =
        let scanned : scan size (between []) tags ≡ violates (rule_meaning rule) = all-scan size ∙ e in record {
          placed = h.placed;
          range = h.gap-tags;
          verdict = sym (rw (found, scanned) refl);
          few = omega arith;
          inside = tt;
          gaps = tt;
        }

    pub checked-passes : (n : ℕ) → n ≤ gap_limit → PairsInside s n starts → scan size (between []) (items_in decode_tag s v.range) ≡ passes (first_pairs s n starts)
        → TagsChecked s at count starts (record { end = v.end; verdict = Ok size; range = v.range; gaps = n })
    unfolding spec_check_part_tags
    checked-passes n few inside e =
        let pairs = first_pairs s n starts in
        let scanned : scan size (between []) tags ≡ passes pairs = all-scan size ∙ e in record {
          placed = h.placed;
          range = h.gap-tags;
          verdict = sym (rw (found, scanned) refl);
          few = few;
          inside = inside;
          gaps = sym (gaps-of-pairs s n starts) ∙ gaps-found size tags pairs scanned;
        }

-- What a pass found: the tags it passed are those that lie there, and the scan of its range is that of all of them.
module _ (s : List ℕ) (at count : ℕ) (before : Sizes) (size : ℕ) (starts : List ℕ) (r : Surveyed) (n : ℕ) (k : PassedTags s at count before size starts r n) where
  abbrev mid : List Tag
  mid = k.tags.mid

  abbrev post : List Tag
  post = k.tags.post

  pub pass_all : scan size (between []) (items_of (decode_many count decode_tag s at)) ≡ passes (first_pairs s n starts)
  pass_all =
      let read = many-append decode_tag s r.range.count (length post) at k.tags.mid-read k.tags.post_read in
      let all : decode_many count decode_tag s at ≡ got (mid ++ post) r.end = ap (λ j. decode_many j decode_tag s at) (sym k.tags.counted) ∙ read in
      ap (λ o. scan size (between []) (items_of o)) all ∙ k.scans

  pub pass-range : scan size (between []) (items_in decode_tag s r.range) ≡ passes (first_pairs s n starts)
  pass-range =
      let read : decode_many r.range.count decode_tag s r.range.at ≡ got mid r.range.end =
      ap (decode_many r.range.count decode_tag s) k.tags.starts ∙ k.tags.mid-read in
      ap (λ o. scan size (between []) (items_of o)) read ∙ sym (scan-range size [] mid post tt k.tags.plains) ∙ k.scans

-- Tags before the first gap tag, with one size tag, and a pass over the others that meets no other one.
module _ (s : List ℕ) (at count : ℕ) (leading : Leading) (l : LeadingTags s at count leading) (size m : ℕ) (starts : List ℕ) (r : Surveyed) (n : ℕ)
    (one : leading.sizes ≡ Sizes.One size) (still : r.sizes ≡ Sizes.One m)
    (k : PassedTags s leading.end (count - leading.count) leading.sizes size starts r n) where
  pub checked-at-once : TagsChecked s at count starts (record { end = r.end; verdict = Ok size; range = r.range; gaps = n })
  checked-at-once =
      let tags = k.tags.mid ++ k.tags.post in
      let sized : Sized (Sizes.One size) tags (Sizes.One m) = subst (Sized (Sizes.One size) tags) still (subst (λ before. Sized before tags r.sizes) one k.tags.sized) in
      let only : Some size ≡ only_size r.sizes = ap (λ n. Some n) (size_same size m tags sized) ∙ ap only_size (sym still) in
      let ranged = pass-range s leading.end (count - leading.count) leading.sizes size starts r n k in
      checked-passes s at count r (whole s at count leading l r k.tags) starts size only n k.few k.inside ranged
