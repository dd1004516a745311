-- The turns of the pass: a tag that is no gap tag, or a gap tag and the tag after it.
use Prim.Native.Nat.{ℕ, ◌+◌, ◌-◌, ◌≤◌, ◌<◌}
use mathlib.Core.Path.{◌≡◌, refl, sym, ap, subst, ◌∙◌}
use mathlib.Core.Bool.{true, false}
use mathlib.Core.List.{List, [], ◌∷◌, ◌++◌, append_assoc, append-nil}
use native.Mathlib.Nat.{sub-zero}
use native.Mathlib.Omega.{arith}
use lib.ListN.{length, length-set, set}
use Rattle.std.specs.Prelude.{Option}
use Rattle.format.specs.Messages.{Tag}
use Rattle.format.specs.Rules.{GapPair}
use Rattle.format.specs.Decoding as decoding
use Rattle.format.specs.Decoding.{decode_many, got, items_of, violates}
use Rattle.format.specs.GapTags.{role}
use Rattle.format.specs.Order.{decode_tag}
use Rattle.format.specs.PartTagOrder.{between, within, next_start, scan, step}
use Rattle.format.specs.PutGaps.{is_plain}
use Rattle.wire.specs.declared.Items.{Items}
use Rattle.wire.specs.declared.Rule.{Rule}
use Rattle.wire.specs.WireAnswers.{items_in, ItemsPlaced}
use Rattle.tags.specs.Skips.{offset_after}
use Rattle.part_tags.specs.declared.Progress.{Progress as Reached}
use Rattle.part_tags.specs.declared.Sizes.{Sizes}
use Rattle.part_tags.specs.TagBytes.{TagThere, after_at, spec_digits_at, number_at, role_at}
use Rattle.part_tags.specs.Survey.{joined, sizes_at}
use Rattle.part_tags.specs.Pairs.{start_of, pair_of, PairsInside, first_pairs, KeysBelow, Keeps, StartTakes, EndTakes, PairTakes, PassedTags, Stops}
use Rattle.part_tags.proofs.Rest.{rest, Turn, reached-first, next-there, turn-after, rest-none}
use Rattle.part_tags.proofs.Rest as rests
use Rattle.part_tags.proofs.TagLaws.{tag-ends}
use Rattle.part_tags.proofs.Ranges.{Ranges, Skipped, plain-is, ranges-done, ranges-first, ranges-left, ranges-pair, ranges-plain}
use Rattle.part_tags.proofs.GapTags.{end-unsized, gap-unsized, inside-push, keys-next, pairs-length, pairs-push, scan-goes, scan-plain, scan-stops}

-- A gap tag, the first of the tags that are left, and the tag after it.
module _ (s : List ℕ) (size : ℕ) (ps : List GapPair) (left : Items) (placed : ItemsPlaced decode_tag s left) (some : 0 < left.count) where
  abbrev n : ℕ
  n = left.count

  abbrev at : ℕ
  at = left.at

  all : items_in decode_tag s left ≡ rest decode_tag s n 0 at
  all = ap (λ k. items_of (decode_many k decode_tag s at)) (sym (sub-zero n))

  pub left_there : TagThere s at
  left_there = next-there decode_tag s n at placed 0 at some (reached-first decode_tag s n at)

  -- it breaks a rule
  pub pair-stops : {rule : decoding.Rule} → step size (between ps) (role_at (decode_tag s at)) ≡ violates rule
      → scan size (between ps) (items_in decode_tag s left) ≡ violates rule
  pair-stops e =
      let t = left_there in
      let turn = turn-after decode_tag s n at placed 0 at some (reached-first decode_tag s n at) (sym (ap offset_after t.1.1)) in
      ap (scan size (between ps)) (all ∙ turn.1.1.next) ∙ scan-stops size (between ps) turn.0 _ (ap (λ o. step size (between ps) (role_at o)) (sym turn.1.0) ∙ e)

  module _ {key start second : ℕ} (a : StartTakes s ps at key start second) where
    abbrev d : List ℕ
    d = spec_digits_at s at

    first : (t : Tag) × ((decode_tag s at ≡ got t second) × Turn decode_tag s n at 0 at t second)
    first = turn-after decode_tag s n at placed 0 at some (reached-first decode_tag s n at) a.next

    -- it starts a pair
    starts : scan size (between ps) (items_in decode_tag s left) ≡ scan size (within ps d start) (rest decode_tag s n 1 second)
    starts =
        ap (scan size (between ps)) (all ∙ first.1.1.next)
        ∙ scan-goes size (between ps) (within ps d start) first.0 _ (ap (λ o. step size (between ps) (role_at o)) (sym first.1.0) ∙ a.steps size)

    pub pair-lone : n < 2 → scan size (between ps) (items_in decode_tag s left) ≡ violates decoding.order
    unfolding scan
    pair-lone h = starts ∙ rw (rest-none decode_tag s n 1 second (omega arith)) refl

    module _ (two : 2 ≤ n) where
      pub second-there : TagThere s second
      second-there = next-there decode_tag s n at placed 1 second (omega arith) first.1.1.reached

      -- the tag after it does not end the pair
      pub pair-open : {rule : decoding.Rule} → ((ps : List GapPair) → step size (within ps d start) (role_at (decode_tag s second)) ≡ violates rule)
          → scan size (between ps) (items_in decode_tag s left) ≡ violates rule
      pair-open e =
          let t = second-there in
          let turn = turn-after decode_tag s n at placed 1 second (omega arith) first.1.1.reached (sym (ap offset_after t.1.1)) in
          starts ∙ ap (scan size (within ps d start)) turn.1.1.next
          ∙ scan-stops size (within ps d start) turn.0 _ (ap (λ o. step size (within ps d start) (role_at o)) (sym turn.1.0) ∙ e ps)

-- The same gap tag and the tag after it, where both make a pair.
module _ (s : List ℕ) (size : ℕ) (ps : List GapPair) (at left : ℕ) (there : TagThere s at) (gap : is_plain (role_at (decode_tag s at)) ≡ false) where
  pub pair-taken : {key start second end after : ℕ} → 2 ≤ left → StartTakes s ps at key start second → TagThere s second
      → EndTakes s size (spec_digits_at s at) start second end after → PairTakes s size ps at left key end after
  pair-taken {key} {start} {second} {end} {after} two a later b =
      let d = spec_digits_at s at in
      let pair : record { digits = d; start = start; end = end } ≡ pair_of s at =
      ap (λ n. record { digits = d; start = n; end = end }) a.start-of
      ∙ ap (λ n. record { digits = d; start = start_of s at; end = n }) (b.end-of ∙ ap (number_at s) a.second-of) in
      let first_read : decode_tag s at ≡ got there.0 second = there.1.1 ∙ ap (got there.0) (sym (a.next ∙ ap offset_after there.1.1)) in
      let second-read : decode_tag s second ≡ got later.0 after = later.1.1 ∙ ap (got later.0) (sym (b.next ∙ ap offset_after later.1.1)) in
      record {
        two = two;
        room = a.room;
        key-of = a.key-of;
        end-of = b.end-of ∙ ap (number_at s) a.second-of;
        inside = subst (λ n. after_at s n ≤ length s) a.second-of (subst (λ n. n ≤ length s) b.after-of b.inside);
        first = there.0;
        second = later.0;
        middle = second;
        first_read = first_read;
        second-read = second-read;
        first-sizes = gap-unsized s at there gap ∙ ap sizes_at first_read;
        second-sizes = end-unsized s second later size ps d start (b.steps ps) ∙ ap sizes_at second-read;
        scans = λ l.
            scan-goes size (between ps) (within ps d start) there.0 (later.0 ∷ l) (ap (λ o. step size (between ps) (role_at o)) (sym first_read) ∙ a.steps size)
            ∙ scan-goes size (within ps d start) _ later.0 l (ap (λ o. step size (within ps d start) (role_at o)) (sym second-read) ∙ b.steps ps)
            ∙ ap (λ p. scan size (between (p ∷ ps)) l) pair;
      }

-- The loop: the scan of the tags so far and of others is the scan of those others, after the pairs so far.
pub record Passing (s : List ℕ) (at count : ℕ) (before : Sizes) (size : ℕ) (starts : List ℕ) (progress : Reached) (found : Sizes) (gap_end gap_count next i : ℕ) : Type 0 where
  pub ranges : Ranges s at count before found gap_end gap_count next i
  pub keeps : Keeps s starts progress
  pub slots : length starts ≡ 64
  pub scans : (l : List Tag) → scan size (between []) ((ranges.mid ++ ranges.post) ++ l) ≡ scan size (between (first_pairs s progress.count starts)) l

module _ (s : List ℕ) (at count : ℕ) (before : Sizes) (size : ℕ) where
  pub passing-first : (starts : List ℕ) → length starts ≡ 64 → Passing s at count before size starts (record { count = 0; low = 0; highest = 0 }) before at 0 at 0
  unfolding first_pairs PairsInside KeysBelow ranges-first
  passing-first starts slots = record {
    ranges = ranges-first s at count before;
    keeps = record { few = omega arith; inside = tt; low = refl; keys = tt };
    slots = slots;
    scans = λ l. refl;
  }

  module _ {starts : List ℕ} {progress : Reached} {found : Sizes} {gap_end gap_count next i : ℕ}
      (h : Passing s at count before size starts progress found gap_end gap_count next i) where
    abbrev tags : List Tag
    tags = h.ranges.mid ++ h.ranges.post

    pub passing-plain : {after : ℕ} (n : Option ℕ) → i < count → Skipped s next n after → is_plain (role_at (decode_tag s next)) ≡ true
        → Passing s at count before size starts progress (joined found n) gap_end gap_count after (i + 1)
    unfolding ranges-plain
    passing-plain n more k p =
        let t = k.tag in
        let plain = plain-is (role t) (sym (ap (λ o. is_plain (role_at o)) k.read) ∙ p) in record {
          ranges = ranges-plain s at count before h.ranges n more k p;
          keeps = h.keeps;
          slots = h.slots;
          scans = λ l.
              ap (λ k. scan size (between []) (k ++ l)) (sym (append_assoc h.ranges.mid h.ranges.post (t ∷ [])))
              ∙ ap (scan size (between [])) (append_assoc tags (t ∷ []) l)
              ∙ h.scans (t ∷ l) ∙ scan-plain size (first_pairs s progress.count starts) t l plain;
        }

    pub passing-pair : {key end after highest : ℕ} → PairTakes s size (first_pairs s progress.count starts) next (count - i) key end after
        → progress.highest ≤ highest → key ≤ highest
        → Passing s at count before size (set starts progress.count next) (record { count = progress.count + 1; low = end + 1; highest = highest }) found after (i + 2) after (i + 2)
    unfolding ranges-pair
    passing-pair {key} {end} {after} {highest} p above own =
        let n : progress.count < length starts = omega (arith, p.room, pairs-length s progress.count starts, h.slots) in
        let push = pairs-push s progress.count starts next n in
        let pair = p.first ∷ p.second ∷ [] in record {
          ranges = ranges-pair s at count before h.ranges p.first p.second (omega (arith, p.two)) p.first_read p.second-read p.first-sizes p.second-sizes;
          keeps = record {
            few = omega (arith, p.room, pairs-length s progress.count starts);
            inside = inside-push s progress.count starts next n p.inside h.keeps.inside;
            low = ap next_start push ∙ omega (arith, p.end-of);
            keys = subst (KeysBelow highest) (sym push) (keys-next progress.highest highest (pair_of s next) _ above (subst (λ k. k ≤ highest) p.key-of own) h.keeps.keys);
          };
          slots = length-set starts progress.count next ∙ h.slots;
          scans = λ l.
              ap (λ k. scan size (between []) (k ++ l)) (append-nil (tags ++ pair))
              ∙ ap (scan size (between [])) (append_assoc tags pair l)
              ∙ h.scans (p.first ∷ p.second ∷ l) ∙ p.scans l ∙ ap (λ ps. scan size (between ps) l) (sym push);
        }

    -- a rule that the tags that are left break
    pub passing-stops : (rule : Rule) → Stops s size (first_pairs s progress.count starts) next (count - i) rule → Stops s size [] at count rule
    passing-stops rule e end placed =
        ap (scan size (between [])) (ranges-left s at count before h.ranges placed) ∙ h.scans (items_of (decode_many (count - i) decode_tag s next))
        ∙ e end (sym h.ranges.up_to.1 ∙ placed)

    -- a tag that is refused: the tags are not all there
    pub passing-refused : (rule : Rule) {after : ℕ} → i < count → after ≡ offset_after (decode_tag s next) → after ≡ 0 → Stops s size [] at count rule
    passing-refused rule more e zero end placed =
        let reached : rests.Reached decode_tag s count at i next = record { passed = h.ranges.up_to.0; same_end = h.ranges.up_to.1 } in
        absurd (tag-ends s next (next-there decode_tag s count at placed i next more reached) (sym e ∙ zero))

    pub passing-done : count ≤ i → PassedTags s at count before size starts (record { range = record { at = at; end = gap_end; count = gap_count }; end = next; sizes = found }) progress.count
    unfolding scan ranges-done
    passing-done all = record {
      tags = ranges-done s at count before h.ranges all;
      few = h.keeps.few;
      inside = h.keeps.inside;
      scans = ap (scan size (between [])) (sym (append-nil tags)) ∙ h.scans [];
    }
