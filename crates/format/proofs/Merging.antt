-- The merge (specs/Merging): it has one outcome, and what an accepted one writes is read as the merged message (specs/Demands, MergedFile).
use mathlib.Core.Path.{◌≡◌, refl, sym, ap, ◌∙◌, subst}
use mathlib.Core.Bool.{Bool, true, false, ◌&&◌, ◌||◌}
use mathlib.Core.Logic.{◌↔◌, ◌⊎◌, inl, inr}
use mathlib.Core.Option.{Option, none, some}
use mathlib.Core.List.{List}
use Prim.Native.Nat.{ℕ, ◌≤◌, ◌<◌, max}
use native.Mathlib.Omega.{arith}
use native.Mathlib.Decide.{dec_lt}
use lib.ListN.{length, take, drop}
use lib.Seq.{take-append_seam}
use lib.Dec.{leb}
use borrow.Author.Tests.{leb-true}
use Rattle.format.specs.Tables.{pick}
use Rattle.format.specs.Gaps.{Gap, Lawful, Ordered, gap_limit, missing, size_limit}
use Rattle.format.specs.Messages.{PartMet, Tag, part_met}
use Rattle.format.specs.Layout.{encode_part_met}
use Rattle.format.specs.Rules.{SizeIs, Valid, ValidPartMet, met_ceiling}
use Rattle.format.specs.Decoding.{Answer, Fault, accepted, number, refusal}
use Rattle.format.specs.GapTags.{gaps_of}
use Rattle.format.specs.MetOrder.{decode}
use Rattle.format.specs.PutGaps.{plain_tags, regapped, tags_of}
use Rattle.format.specs.Writing.{Written, overwritten, unwritten}
use Rattle.format.specs.Merging.{HashForm, Merged, Merges, MergesAfter, OneModel, ThreeWay, agreed, conflict, conflicts, e0_form, e1_form, first_changed, merges, second_changed, strangers}
use Rattle.format.specs.Merging.{FormChoice, TagsChoice, date_of, form_of, gaps_left, hash_of, merged_gaps, merged_missing, merged_part, part_of, within_limits}
use Rattle.format.specs.Demands.{Accepted, AllDiffer, MergeConflict, MergeOnce, MergeReadBack, MergedBack, MergedFile, RefusedMerge, Strangers, TwoWays, Untouched, Winner}
use Rattle.format.proofs.Acceptance.{accepts}
use Rattle.format.proofs.Differ.{differ}
use Rattle.format.proofs.Gaps.{beyond}
use Rattle.format.proofs.Intervals.{intervals-missing, intervals-ordered}
use Rattle.format.proofs.PartMet.{size-dword, size-gaps}
use Rattle.format.proofs.PartTags.{no_true}
use Rattle.format.proofs.Regapped.{gaps-regapped, part-valid, plain-regapped, same_size, size-regapped, valid-date, valid-hash, valid-sized, valid-tags}
use Rattle.format.proofs.Writing.{number-below, number-some, valid-decodes}

-- One outcome

same_some : {A : Type 0} {a b : A} → some a ≡ some b → a ≡ b
same_some e = cc

three-once : {A : Type 0} {o a b : A} {r s : Option A} → ThreeWay o a b r → ThreeWay o a b s → r ≡ s
three-once (agreed e) (agreed f) = refl
three-once (agreed e) (first_changed f) = refl
three-once (agreed e) (second_changed f) = ap some e
three-once (agreed e) (conflict x y z) = absurd (x e)
three-once (first_changed e) (agreed f) = refl
three-once (first_changed e) (first_changed f) = refl
three-once (first_changed e) (second_changed f) = ap some (f ∙ sym e)
three-once (first_changed e) (conflict x y z) = absurd (y e)
three-once (second_changed e) (agreed f) = ap some (sym f)
three-once (second_changed e) (first_changed f) = ap some (f ∙ sym e)
three-once (second_changed e) (second_changed f) = refl
three-once (second_changed e) (conflict x y z) = absurd (z e)
three-once (conflict x y z) (agreed f) = absurd (x f)
three-once (conflict x y z) (first_changed f) = absurd (y f)
three-once (conflict x y z) (second_changed f) = absurd (z f)
three-once (conflict x y z) (conflict u v w) = refl

no-conflict : (o a b : PartMet) {f : HashForm} {l : List Tag} → FormChoice o a b (some f) → TagsChoice o a b (some l) →
    FormChoice o a b none ⊎ TagsChoice o a b none → ⊥
no-conflict o a b c d (inl e) = differ (let q = three-once e c in cc)
no-conflict o a b c d (inr e) = differ (let q = three-once e d in cc)

one_size : {n m : ℕ} {o a b : PartMet} → OneModel n o a b → OneModel m o a b → n ≡ m
one_size {n} {m} {o} h k = same_size n m (tags_of o) h.sizes.0 k.sizes.0

merged-once : {o a b : PartMet} {output : List ℕ} {v w : Written} → Merged o a b output v → Merged o a b output w → v ≡ w
merged-once (strangers h) (strangers k) = refl
merged-once (strangers h) (conflicts size k c) = absurd (h size k)
merged-once (strangers h) (merges size k f c l d) = absurd (h size k)
merged-once (conflicts size k c) (strangers h) = absurd (h size k)
merged-once (conflicts size k c) (conflicts size' h d) = refl
merged-once {o} {a} {b} (conflicts size k e) (merges size' h f c l d) = absurd (no-conflict o a b c d e)
merged-once (merges size k f c l d) (strangers h) = absurd (h size k)
merged-once {o} {a} {b} (merges size k f c l d) (conflicts size' h e) = absurd (no-conflict o a b c d e)
merged-once (merges size k f c l d) (merges size' h g e m i) = rw (one_size k h, same_some (three-once c e), same_some (three-once d i)) refl

pub merge-once : MergeOnce
unfolding Merges
merge-once opened first second output v w = go (decode part_met opened) (decode part_met first) (decode part_met second)
  where
    go : (o a b : Answer PartMet) → MergesAfter o a b output v → MergesAfter o a b output w → v ≡ w
    go (refusal f) a b h k = h ∙ sym k
    go (accepted o) (refusal f) b h k = h ∙ sym k
    go (accepted o) (accepted a) (refusal f) h k = h ∙ sym k
    go (accepted o) (accepted a) (accepted b) h k = merged-once h k

-- The numbers: what is within the limits gives 0, 6 or 10.

module _ (gaps : List Gap) (bytes output : List ℕ) where
  -- the three tests, one after the other
  abbrev limited : (few short room : Bool) → Written
  limited few short room =
      pick few (pick short (pick room (record { number = 0; length = length bytes; output = overwritten bytes output }) (unwritten 10 output))
      (unwritten 6 output)) (unwritten 6 output)

  limited-untouched : (few short room : Bool) → Untouched output (limited few short room)
  limited-untouched true true true h = absurd (h refl)
  limited-untouched true true false h = (refl, refl)
  limited-untouched true false room h = (refl, refl)
  limited-untouched false short room h = (refl, refl)

  limited-number : (few short room : Bool) → (limited few short room).number < 11
  limited-number true true true = omega arith
  limited-number true true false = omega arith
  limited-number true false room = omega arith
  limited-number false short room = omega arith

  pub record Within : Type 0 where
    pub few : length gaps ≤ gap_limit
    pub short : length bytes ≤ met_ceiling
    pub wrote : take (within_limits gaps bytes output).length (within_limits gaps bytes output).output ≡ bytes

  within : (within_limits gaps bytes output).number ≡ 0 → Within
  within e = go (leb (length gaps) gap_limit) (leb (length bytes) met_ceiling) (leb (length bytes) (length output)) refl refl refl e
    where
      go : (few short room : Bool) → leb (length gaps) gap_limit ≡ few → leb (length bytes) met_ceiling ≡ short → leb (length bytes) (length output) ≡ room →
          (limited few short room).number ≡ 0 → Within
      go true true true p q r e = record {
        few = leb-true (length gaps) gap_limit p;
        short = leb-true (length bytes) met_ceiling q;
        wrote = rw (p, q, r) (take-append_seam bytes (drop (length bytes) output));
      }
      go true true false p q r e = absurd (omega arith)
      go true false room p q r e = absurd (omega arith)
      go false short room p q r e = absurd (omega arith)

  pub refused-within : Untouched output (within_limits gaps bytes output)
  refused-within = limited-untouched (leb (length gaps) gap_limit) (leb (length bytes) met_ceiling) (leb (length bytes) (length output))

  number-within : (within_limits gaps bytes output).number < 11
  number-within = limited-number (leb (length gaps) gap_limit) (leb (length bytes) met_ceiling) (leb (length bytes) (length output))

-- A refusal leaves the output as it was.

refused-merged : {o a b : PartMet} {output : List ℕ} {w : Written} → Merged o a b output w → Untouched output w
refused-merged (strangers h) k = (refl, refl)
refused-merged (conflicts size h c) k = (refl, refl)
refused-merged {o} {a} {b} {output} (merges size h f c l d) k = refused-within (gaps_left size o a b) (encode_part_met (merged_part f l size o a b)) output k

untouched-as : {output : List ℕ} {n : ℕ} (w : Written) → w ≡ unwritten n output → Untouched output w
untouched-as w e k = rw e (refl, refl)

pub refused-merge : RefusedMerge
unfolding Merges
refused-merge opened first second output w = go (decode part_met opened) (decode part_met first) (decode part_met second)
  where
    go : (o a b : Answer PartMet) → MergesAfter o a b output w → Untouched output w
    go (refusal f) a b h = untouched-as w h
    go (accepted o) (refusal f) b h = untouched-as w h
    go (accepted o) (accepted a) (refusal f) h = untouched-as w h
    go (accepted o) (accepted a) (accepted b) h = refused-merged h

-- 12 comes from strangers alone, and 11 from two different changes.

strangers-alone : {o a b : PartMet} {output : List ℕ} {w : Written} → Merged o a b output w → w.number ≡ 12 → (size : ℕ) → OneModel size o a b → ⊥
strangers-alone (strangers h) e = h
strangers-alone (conflicts size h c) e = absurd (omega arith)
strangers-alone {o} {a} {b} {output} (merges size h f c l d) e =
    absurd (omega (arith, number-within (gaps_left size o a b) (encode_part_met (merged_part f l size o a b)) output))

strangers-told : {o a b : PartMet} {output : List ℕ} {w : Written} → Merged o a b output w → ((size : ℕ) → OneModel size o a b → ⊥) → w.number ≡ 12
strangers-told (strangers h) k = refl
strangers-told (conflicts size h c) k = absurd (k size h)
strangers-told (merges size h f c l d) k = absurd (k size h)

-- Two different changes, in plain words.
differ-told : {A : Type 0} {o a b : A} {r : Option A} → ThreeWay o a b r → r ≡ none → AllDiffer o a b
differ-told (agreed e) q = differ cc
differ-told (first_changed e) q = differ cc
differ-told (second_changed e) q = differ cc
differ-told (conflict x y z) q = (z, (y, x))

differ-none : {A : Type 0} {o a b : A} → AllDiffer o a b → ThreeWay o a b none
differ-none h = conflict h.1.1 h.1.0 h.0

two_ways : (o a b : PartMet) → FormChoice o a b none ⊎ TagsChoice o a b none →
    AllDiffer (form_of o) (form_of a) (form_of b) ⊎ AllDiffer (plain_tags (tags_of o)) (plain_tags (tags_of a)) (plain_tags (tags_of b))
two_ways o a b (inl c) = inl (differ-told c refl)
two_ways o a b (inr c) = inr (differ-told c refl)

two-choices : (o a b : PartMet) → AllDiffer (form_of o) (form_of a) (form_of b) ⊎ AllDiffer (plain_tags (tags_of o)) (plain_tags (tags_of a)) (plain_tags (tags_of b)) →
    FormChoice o a b none ⊎ TagsChoice o a b none
two-choices o a b (inl h) = inl (differ-none h)
two-choices o a b (inr h) = inr (differ-none h)

conflict-alone : {o a b : PartMet} {output : List ℕ} {w : Written} → Merged o a b output w → w.number ≡ 11 → TwoWays o a b
conflict-alone (strangers h) e = absurd (omega arith)
conflict-alone {o} {a} {b} (conflicts size h c) e = record { size = size; one = h; changed = two_ways o a b c }
conflict-alone {o} {a} {b} {output} (merges size h f c l d) e =
    absurd (omega (arith, number-within (gaps_left size o a b) (encode_part_met (merged_part f l size o a b)) output))

conflict-told : {o a b : PartMet} {output : List ℕ} {w : Written} → Merged o a b output w → TwoWays o a b → w.number ≡ 11
conflict-told (strangers h) k = absurd (h k.size k.one)
conflict-told (conflicts size h c) k = refl
conflict-told {o} {a} {b} (merges size h f c l d) k = absurd (no-conflict o a b c d (two-choices o a b k.changed))

own-number : {output : List ℕ} (f : Fault) (w : Written) (n : ℕ) → w ≡ unwritten (number f.rule) output → w.number ≡ n → 9 < n → ⊥
own-number f w n e k h = let m = ap (λ (x : Written). x.number) e in omega (arith, number-below f.rule)

-- A number above the readers' own is that of three files that are accepted.
module _ (opened first second output : List ℕ) (w : Written) (n : ℕ) (high : 9 < n) (P : (o a b : PartMet) → Type 0) where
  Of : Type 0
  Of = (o : Accepted part_met opened) × ((a : Accepted part_met first) × ((b : Accepted part_met second) × P o.0 a.0 b.0))

  exactly : ((o a b : PartMet) → Merged o a b output w → (w.number ≡ n) ↔ P o a b) → Merges opened first second output w → (w.number ≡ n) ↔ Of
  unfolding Merges Of
  exactly f m = (
    there (decode part_met opened) (decode part_met first) (decode part_met second) refl refl refl m,
    λ h. (f h.0.0 h.1.0.0 h.1.1.0.0 (rw (h.0.1, h.1.0.1, h.1.1.0.1) at m)).1 h.1.1.1,
  )
    where
      there : (o a b : Answer PartMet) → decode part_met opened ≡ o → decode part_met first ≡ a → decode part_met second ≡ b → MergesAfter o a b output w →
          w.number ≡ n → Of
      there (refusal f) a b p q r h e = absurd (own-number f w n h e high)
      there (accepted o) (refusal f) b p q r h e = absurd (own-number f w n h e high)
      there (accepted o) (accepted a) (refusal f) p q r h e = absurd (own-number f w n h e high)
      there (accepted o) (accepted a) (accepted b) p q r h e = ((o, p), ((a, q), ((b, r), (f o a b h).0 e)))

pub strangers-exactly : Strangers
unfolding Of
strangers-exactly opened first second output w m =
    exactly opened first second output w 12 (omega arith) (λ o a b. (size : ℕ) → OneModel size o a b → ⊥)
    (λ o a b h. (strangers-alone h, strangers-told h)) m

pub conflict-exactly : MergeConflict
unfolding Of
conflict-exactly opened first second output w m =
    exactly opened first second output w 11 (omega arith) TwoWays (λ o a b h. (conflict-alone h, conflict-told h)) m

-- The merged message, by its parts

date-of : (form : HashForm) (date : ℕ) (hash : List ℕ) (tags : List Tag) → date_of (part_of form date hash tags) ≡ date
date-of (e0_form parts) date hash tags = refl
date-of (e1_form blocks) date hash tags = refl

hash-of : (form : HashForm) (date : ℕ) (hash : List ℕ) (tags : List Tag) → hash_of (part_of form date hash tags) ≡ hash
hash-of (e0_form parts) date hash tags = refl
hash-of (e1_form blocks) date hash tags = refl

form-of : (form : HashForm) (date : ℕ) (hash : List ℕ) (tags : List Tag) → form_of (part_of form date hash tags) ≡ form
form-of (e0_form parts) date hash tags = refl
form-of (e1_form blocks) date hash tags = refl

tags-of : (form : HashForm) (date : ℕ) (hash : List ℕ) (tags : List Tag) → tags_of (part_of form date hash tags) ≡ tags
unfolding tags_of
tags-of (e0_form parts) date hash tags = refl
tags-of (e1_form blocks) date hash tags = refl

-- The missing bytes, in plain words

both-exactly : (a b : Bool) → ((a && b) ≡ true) ↔ ((a ≡ true) × (b ≡ true))
both-exactly true true = (λ e. (refl, refl), λ h. refl)
both-exactly true false = (λ e. absurd (no_true e), λ h. h.1)
both-exactly false b = (λ e. absurd (no_true e), λ h. h.0)

either-exactly : (a b : Bool) → ((a || b) ≡ true) ↔ ((a ≡ true) ⊎ (b ≡ true))
either-exactly true b = (λ e. inl refl, λ h. refl)
either-exactly false true = (λ e. inr refl, λ h. refl)
either-exactly false false = (λ e. absurd (no_true e), none)
  where
    none : (false ≡ true) ⊎ (false ≡ true) → false ≡ true
    none (inl e) = e
    none (inr e) = e

module _ (size : ℕ) (o a b : List Gap) (in-o : Ordered size 0 o) (in-a : Ordered size 0 a) (in_b : Ordered size 0 b) where
  -- past the end nothing is missing
  pub merged-missing : (x : ℕ) → missing (merged_gaps size o a b) x ≡ merged_missing (missing o x) (missing a x) (missing b x)
  merged-missing x = go (dec_lt x size)
    where
      go : Dec (x < size) → missing (merged_gaps size o a b) x ≡ merged_missing (missing o x) (missing a x) (missing b x)
      go (yes h) = intervals-missing _ size x h
      go (no h) = rw (
        beyond size 0 (merged_gaps size o a b) x (intervals-ordered _ size) (omega arith),
        beyond size 0 o x in-o (omega arith),
        beyond size 0 a x in-a (omega arith),
        beyond size 0 b x in_b (omega arith),
      ) refl

  missing-both : (x : ℕ) → missing o x ≡ true → (missing (merged_gaps size o a b) x ≡ true) ↔ ((missing a x ≡ true) × (missing b x ≡ true))
  missing-both x e = rw (merged-missing x, e) (both-exactly (missing a x) (missing b x))

  missing-either : (x : ℕ) → missing o x ≡ false → (missing (merged_gaps size o a b) x ≡ true) ↔ ((missing a x ≡ true) ⊎ (missing b x ≡ true))
  missing-either x e = rw (merged-missing x, e) (either-exactly (missing a x) (missing b x))

-- What was chosen is what won, and is the first save's or the second's.
winner : {A : Type 0} {o a b c : A} {r : Option A} → ThreeWay o a b r → r ≡ some c → Winner o a b c
winner (agreed e) q =
    let k = sym (same_some q) in record { first_left_it = λ f. k ∙ e; second_left_it = λ f. k; equal = λ f. k; one = inr (inr e) }
winner (first_changed e) q =
    let k = sym (same_some q) in record { first_left_it = λ f. k ∙ f ∙ sym e; second_left_it = λ f. k; equal = λ f. k; one = inr (inl e) }
winner (second_changed e) q =
    let k = sym (same_some q) in record { first_left_it = λ f. k; second_left_it = λ f. k ∙ f ∙ sym e; equal = λ f. k ∙ sym f; one = inl e }
winner (conflict x y z) q = differ cc

chosen : {A : Type 0} {o a b c : A} {r : Option A} → ThreeWay o a b r → r ≡ some c → (c ≡ a) ⊎ (c ≡ b)
chosen (agreed e) q = inl (sym (same_some q))
chosen (first_changed e) q = inl (sym (same_some q))
chosen (second_changed e) q = inr (sym (same_some q))
chosen (conflict x y z) q = differ cc

either-save : {A B : Type 0} {C : Type 0} → A ⊎ B → (A → C) → (B → C) → C
either-save (inl a) f g = f a
either-save (inr b) f g = g b

module _ (size : ℕ) (o a b : PartMet) (valid-o : ValidPartMet o) (valid-a : ValidPartMet a) (valid-b : ValidPartMet b) (one : OneModel size o a b)
    (few : length (gaps_left size o a b) ≤ gap_limit) where
  -- the gaps of each file keep the rules for this size
  ordered : (m : PartMet) → ValidPartMet m → SizeIs size (tags_of m) → Ordered size 0 (gaps_of (tags_of m))
  ordered m v h =
      let s = valid-sized m v in
      subst (λ n. Ordered n 0 (gaps_of (tags_of m))) (same_size s.0 size (tags_of m) s.1.one h) (size-gaps s.0 (tags_of m) (valid-tags m v) s.1).1.1

  pub gaps-lawful : Lawful size_limit size (gaps_left size o a b)
  gaps-lawful = record {
    fits = let s = size-dword size (tags_of o) (valid-tags o valid-o) one.sizes.0 in omega arith;
    few = few;
    ordered = intervals-ordered _ size;
  }

  -- the form of one of the saves, and the tags of one of them
  module _ (f t : PartMet) (valid-f : ValidPartMet f) (sized-f : SizeIs size (tags_of f)) (valid-t : ValidPartMet t) (sized-t : SizeIs size (tags_of t)) where
    abbrev made : PartMet
    made = merged_part (form_of f) (plain_tags (tags_of t)) size o a b

    abbrev date : ℕ
    date = max (date_of a) (date_of b)

    abbrev tags : List Tag
    tags = regapped (gaps_left size o a b) (tags_of t)

    made-valid : length (encode_part_met made) ≤ met_ceiling → Valid part_met made
    made-valid short = record {
      content =
          part-valid size_limit size (gaps_left size o a b) (omega arith) gaps-lawful (tags_of t) sized-t f valid-f sized-f date
          (let x = valid-date a valid-a in let y = valid-date b valid-b in omega arith) (hash_of o) (valid-hash o valid-o) (valid-tags t valid-t) short;
      few = short;
    }

    made-tags : tags_of made ≡ tags
    made-tags = tags-of (form_of f) date (hash_of o) tags

    made-gaps : gaps_of (tags_of made) ≡ gaps_left size o a b
    made-gaps = rw made-tags (gaps-regapped (gaps_left size o a b) (tags_of t))

    made-others : plain_tags (tags_of made) ≡ plain_tags (tags_of t)
    made-others = rw made-tags (plain-regapped (gaps_left size o a b) (tags_of t))

    made-merged : FormChoice o a b (some (form_of f)) → TagsChoice o a b (some (plain_tags (tags_of t))) → MergedFile o a b made
    made-merged c d =
        let hash = hash-of (form_of f) date (hash_of o) tags in
        let in-o = ordered o valid-o one.sizes.0 in
        let in-a = ordered a valid-a one.sizes.1.0 in
        let in_b = ordered b valid-b one.sizes.1.1 in
        record {
          date = date-of (form_of f) date (hash_of o) tags;
          hash = (hash, (hash ∙ sym one.hashes.0, hash ∙ sym one.hashes.1));
          size =
              λ n h. let q = same_size size n (tags_of o) one.sizes.0 h in (
                subst (λ k. SizeIs k (tags_of a)) q one.sizes.1.0,
                (
                  subst (λ k. SizeIs k (tags_of b)) q one.sizes.1.1,
                  rw made-tags (size-regapped n (gaps_left size o a b) (tags_of t) (subst (λ k. SizeIs k (tags_of t)) q sized-t)),
                ),
              );
          form = rw (form-of (form_of f) date (hash_of o) tags) (winner c refl);
          others = rw made-others (winner d refl);
          tags = rw (made-others, made-gaps) made-tags;
          both = rw made-gaps (missing-both size _ _ _ in-o in-a in_b);
          either = rw made-gaps (missing-either size _ _ _ in-o in-a in_b);
        }

    -- its bytes are read as it
    made-back : length (encode_part_met made) ≤ met_ceiling → FormChoice o a b (some (form_of f)) → TagsChoice o a b (some (plain_tags (tags_of t))) →
        (m : Accepted part_met (encode_part_met made)) × MergedFile o a b m.0
    made-back short c d = ((made, valid-decodes part_met made (made-valid short)), made-merged c d)

  abbrev Back : HashForm → List Tag → Type 0
  Back form tags = (m : Accepted part_met (encode_part_met (merged_part form tags size o a b))) × MergedFile o a b m.0

  back : (form : HashForm) (tags : List Tag) → FormChoice o a b (some form) → TagsChoice o a b (some tags) →
      length (encode_part_met (merged_part form tags size o a b)) ≤ met_ceiling → Back form tags
  back form tags c d short =
      let from : (f t : PartMet) → ValidPartMet f → SizeIs size (tags_of f) → ValidPartMet t → SizeIs size (tags_of t) →
      form ≡ form_of f → tags ≡ plain_tags (tags_of t) → Back form tags =
      λ f t vf sf vt st p q. rw (p, q) (made-back f t vf sf vt st (rw (p, q) at short) (rw p at c) (rw q at d)) in
      let sizes = one.sizes.1 in
      either-save (chosen c refl)
      (λ p. either-save (chosen d refl)
      (λ q. from a a valid-a sizes.0 valid-a sizes.0 p q)
      (λ q. from a b valid-a sizes.0 valid-b sizes.1 p q))
      (λ p. either-save (chosen d refl)
      (λ q. from b a valid-b sizes.1 valid-a sizes.0 p q)
      (λ q. from b b valid-b sizes.1 valid-b sizes.1 p q))

pub merge-read-back : MergeReadBack
unfolding Merges
merge-read-back opened first second output w bytes-o bytes-a bytes-b m e =
    go (decode part_met opened) (decode part_met first) (decode part_met second) refl refl refl m
  where
    wrote : {o a b : PartMet} → decode part_met opened ≡ accepted o → decode part_met first ≡ accepted a → decode part_met second ≡ accepted b →
        {v : Written} → Merged o a b output v → v.number ≡ 0 → MergedBack opened first second (take v.length v.output)
    wrote p q r (strangers h) e = absurd (omega arith)
    wrote p q r (conflicts size h c) e = absurd (omega arith)
    wrote {o} {a} {b} p q r (merges size h form c tags d) e =
        let valid-o = ((accepts part_met opened bytes-o o).0 p).1.content in
        let valid-a = ((accepts part_met first bytes-a a).0 q).1.content in
        let valid-b = ((accepts part_met second bytes-b b).0 r).1.content in
        let inside = within (gaps_left size o a b) (encode_part_met (merged_part form tags size o a b)) output e in
        let found = back size o a b valid-o valid-a valid-b h inside.few form tags c d inside.short in
        record { o = (o, p); a = (a, q); b = (b, r); made = rw inside.wrote found.0; merged = found.1 }

    own : {n : ℕ} → (n ≡ 0 → ⊥) → w ≡ unwritten n output → MergedBack opened first second (take w.length w.output)
    own numbered h = absurd (numbered (sym (ap (λ (x : Written). x.number) h) ∙ e))

    go : (o a b : Answer PartMet) → decode part_met opened ≡ o → decode part_met first ≡ a → decode part_met second ≡ b →
        MergesAfter o a b output w → MergedBack opened first second (take w.length w.output)
    go (refusal f) a b p q r h = own (number-some f.rule) h
    go (accepted o) (refusal f) b p q r h = own (number-some f.rule) h
    go (accepted o) (accepted a) (refusal f) p q r h = own (number-some f.rule) h
    go (accepted o) (accepted a) (accepted b) p q r h = wrote p q r h e
