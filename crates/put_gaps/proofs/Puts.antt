-- What a put comes to, by what the reader says of the file and by the tests on the record.
use Prim.Native.Nat.{ℕ}
use mathlib.Core.Path.{◌≡◌, refl, sym, ap, ◌∙◌}
use mathlib.Core.Bool.{true, false}
use mathlib.Core.Logic.{◌↔◌}
use mathlib.Core.List.{List}
use lib.Dec.{leb}
use lib.ListN.{length}
use borrow.Author.Tests.{eq-eqb, ne_eqb}
use Rattle.format.specs.Gaps.{lawful, size_limit}
use Rattle.format.specs.Messages.{PartMet, part_met}
use Rattle.format.specs.Layout.{encode, encode_part_met}
use Rattle.format.specs.Rules.{Valid}
use Rattle.format.specs.Decoding.{Answer, refusal, accepted, message, passes, refused_with, reply}
use Rattle.format.specs.PartTagOrder.{spec_check_part_tags}
use Rattle.format.specs.MetOrder.{decode}
use Rattle.format.specs.Writing.{unwritten}
use Rattle.format.specs.PutGaps.{spec_put_gaps, tags_of, with_gaps, within_ceiling}
use Rattle.format.proofs.Gaps.{both_true}
use Rattle.format.proofs.PartTags.{either-test}
use Rattle.gaps.specs.declared.GapRecord.{GapRecord}
use Rattle.gaps.specs.GapRecords.{gaps_of, lawful_record}
use Rattle.met.specs.declared.PartGaps.{PartGaps}
use Rattle.met.specs.declared.PartMet as code
use Rattle.met.specs.MetAnswers.{part_in, part_met_in, part_reply, PartAnswerPlaced, PartReadSized, PartMetSized, tags_place}
use Rattle.part_tags.specs.PartTagAnswers.{GapsHeld}
use Rattle.part_tags.proofs.GapTags.{gaps-length}
use Rattle.tags.specs.TagAnswers.{tags_in}
use Rattle.wire.specs.declared.Items.{Items}
use Rattle.put_gaps.specs.PutAnswers.{spec_put_record}
use Rattle.put_gaps.specs.Pieces.{Accepts, HasGaps}
use Rattle.std.specs.Prelude.{Result, Ok}
use Rattle.wire.specs.declared.Rule.{Rule}

accepted-as : (a : Answer PartMet) (m : PartMet) → message m ≡ reply a → a ≡ accepted m
accepted-as (refusal f) m e = cc
accepted-as (accepted n) m e = cc

module _ (s : List ℕ) (g : GapRecord) (output : List ℕ) where
  pub put_refused : (n : ℕ) → refused_with n ≡ reply (decode part_met s) → spec_put_record s g output ≡ unwritten n output
  unfolding spec_put_record spec_put_gaps
  put_refused n e = go (decode part_met s) refl e
    where
      go : (a : Answer PartMet) → decode part_met s ≡ a → refused_with n ≡ reply a → spec_put_record s g output ≡ unwritten n output
      go (refusal f) q e = rw q (either-test (leb g.count 64) (λ t. rw t cc) (λ t. rw t cc))
      go (accepted m) q e = cc

  module _ (m : PartMet) (read : message m ≡ reply (decode part_met s)) where
    pub put-unlawful : lawful_record size_limit g ≡ false → spec_put_record s g output ≡ unwritten 8 output
    unfolding spec_put_record spec_put_gaps lawful_record
    put-unlawful h = rw (accepted-as (decode part_met s) m read) (either-test (leb g.count 64) (λ t. rw (t, rw t at h) refl) (λ t. rw t refl))

    module _ (h : lawful_record size_limit g ≡ true) (size : ℕ) (sized : spec_check_part_tags (tags_of m) ≡ passes (size, tags_of m)) where
      pub put-other-size : (g.size ≡ size → ⊥) → spec_put_record s g output ≡ unwritten 8 output
      unfolding spec_put_record spec_put_gaps lawful_record
      put-other-size other =
          let t = both_true (leb g.count 64) (lawful size_limit g.size (gaps_of g)) h in
          rw (accepted-as (decode part_met s) m read, t.0, t.1, sized, ne_eqb g.size size other) refl

      pub put-fitting : g.size ≡ size → spec_put_record s g output ≡ within_ceiling (encode_part_met (with_gaps (gaps_of g) m)) output
      unfolding spec_put_record spec_put_gaps lawful_record
      put-fitting fits =
          let t = both_true (leb g.count 64) (lawful size_limit g.size (gaps_of g)) h in
          rw (accepted-as (decode part_met s) m read, t.0, t.1, sized, eq-eqb g.size size fits) refl

-- What the reader of the file says of a part.met that it accepts.

sized_same : (s : List ℕ) (part : code.PartMet) (size : ℕ) → PartMetSized s part size →
    spec_check_part_tags (tags_of (part_met_in s part)) ≡ passes (size, tags_of (part_met_in s part))
unfolding tags_of
sized_same s (code.PartMet.E0 e) size h = h
sized_same s (code.PartMet.E1 m) size h = h

-- as many gaps as offsets
gaps-held : (s starts : List ℕ) (tags : Items) (n : ℕ) → GapsHeld s starts n (tags_in s tags) → HasGaps s tags n
gaps-held s starts tags n h = record { few = h.few; counted = sym (gaps-length s n starts) ∙ ap length h.gaps }

pub reads : (s starts : List ℕ) (r : Result (code.PartMet × PartGaps) Rule) (part : code.PartMet) (found : PartGaps) → r ≡ Ok (part, found) →
    (part_reply s (part_in r) ≡ reply (decode part_met s)) × (PartAnswerPlaced s (part_in r) × (PartReadSized s starts r ×
    ((m : PartMet) → (part_reply s (part_in r) ≡ message m) ↔ ((s ≡ encode part_met m) × Valid part_met m)))) → Accepts s part found
reads s starts r part found e h =
    let k = rw e at h in
    let exact = (k.1.1.1 (part_met_in s part)).0 refl in
    record {
      read = record { bytes = exact.0; valid = exact.1; placed = k.1.0 };
      told = k.0;
      sized = sized_same s part found.size k.1.1.0.0;
      ranged = k.1.1.0.1.0;
      counted = gaps-held s starts (tags_place part) found.count k.1.1.0.1.1;
    }

-- its gaps, as an array of offsets that was lent holds them
pub reads-gaps : (s starts : List ℕ) (r : Result (code.PartMet × PartGaps) Rule) (part : code.PartMet) (found : PartGaps) → r ≡ Ok (part, found) →
    PartReadSized s starts r → GapsHeld s starts found.count (tags_in s (tags_place part))
reads-gaps s starts r part found e h = let k = rw e at h in k.1.1
