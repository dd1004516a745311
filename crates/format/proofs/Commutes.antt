-- The merge commutes: its two saves change places (specs/EitherOrder, MergeExchanged and MergeOneRefused). Once the files are read nothing in
-- its definition tells the saves apart, and a gap list is the only one with its missing bytes.
use mathlib.Core.Path.{◌≡◌, refl, sym, ap, ◌∙◌, subst}
use mathlib.Core.Bool.{Bool, true, false}
use mathlib.Core.Logic.{◌⊎◌, inl, inr}
use mathlib.Core.Option.{Option, none, some}
use mathlib.Core.List.{List, ◌++◌}
use Prim.Native.Nat.{ℕ, max}
use native.Mathlib.Omega.{arith}
use Rattle.format.specs.Gaps.{Gap, missing}
use Rattle.format.specs.Messages.{PartMet, Tag, part_met}
use Rattle.format.specs.Layout.{encode_part_met}
use Rattle.format.specs.Decoding.{Answer, Fault, accepted, refusal}
use Rattle.format.specs.GapTags.{gaps_of}
use Rattle.format.specs.MetOrder.{decode}
use Rattle.format.specs.PutGaps.{gap_tags, tags_of}
use Rattle.format.specs.Writing.{Written}
use Rattle.format.specs.Merging.{HashForm, Merged, Merges, MergesAfter, OneModel, ThreeWay, agreed, conflict, conflicts, first_changed, merges, second_changed, strangers}
use Rattle.format.specs.Merging.{FormChoice, TagsChoice, date_of, gaps_left, hash_of, merged_gaps, merged_missing, merged_part, part_of, within_limits}
use Rattle.format.specs.Demands.{Accepted}
use Rattle.format.specs.EitherOrder.{MergeExchanged, MergeOneRefused}
use Rattle.format.proofs.Intervals.{intervals-missing, intervals-only, intervals-ordered}
use Rattle.format.proofs.Writing.{not-both}

-- What is missing

missing-exchanged : (opened first second : Bool) → merged_missing opened first second ≡ merged_missing opened second first
missing-exchanged true true true = refl
missing-exchanged true true false = refl
missing-exchanged true false true = refl
missing-exchanged true false false = refl
missing-exchanged false true true = refl
missing-exchanged false true false = refl
missing-exchanged false false true = refl
missing-exchanged false false false = refl

gaps-exchanged : (size : ℕ) (o a b : List Gap) → merged_gaps size o a b ≡ merged_gaps size o b a
gaps-exchanged size o a b =
    intervals-only (λ x. merged_missing (missing o x) (missing b x) (missing a x)) size (merged_gaps size o a b) (intervals-ordered _ size)
    (λ x h. intervals-missing _ size x h ∙ missing-exchanged (missing o x) (missing a x) (missing b x))

-- What is chosen

three-exchanged : {A : Type 0} {o a b : A} {r : Option A} → ThreeWay o a b r → ThreeWay o b a r
three-exchanged {A} {o} {a} {b} (agreed e) = subst (λ c. ThreeWay o b a (some c)) (sym e) (agreed (sym e))
three-exchanged (first_changed e) = second_changed e
three-exchanged (second_changed e) = first_changed e
three-exchanged (conflict x y z) = conflict (λ e. x (sym e)) z y

model-exchanged : {size : ℕ} {o a b : PartMet} → OneModel size o a b → OneModel size o b a
model-exchanged h = record { hashes = (h.hashes.1, h.hashes.0); sizes = (h.sizes.0, (h.sizes.1.1, h.sizes.1.0)) }

conflict-exchanged : (o a b : PartMet) → FormChoice o a b none ⊎ TagsChoice o a b none → FormChoice o b a none ⊎ TagsChoice o b a none
conflict-exchanged o a b (inl c) = inl (three-exchanged c)
conflict-exchanged o a b (inr c) = inr (three-exchanged c)

-- The outcome

left-exchanged : (size : ℕ) (o a b : PartMet) → gaps_left size o a b ≡ gaps_left size o b a
left-exchanged size o a b = gaps-exchanged size (gaps_of (tags_of o)) (gaps_of (tags_of a)) (gaps_of (tags_of b))

part-exchanged : (form : HashForm) (tags : List Tag) (size : ℕ) (o a b : PartMet) → merged_part form tags size o a b ≡ merged_part form tags size o b a
part-exchanged form tags size o a b =
    let later : max (date_of a) (date_of b) ≡ max (date_of b) (date_of a) = omega arith in
    ap (λ date. part_of form date (hash_of o) (tags ++ gap_tags 0 (gaps_left size o a b))) later
    ∙ ap (λ gaps. part_of form (max (date_of b) (date_of a)) (hash_of o) (tags ++ gap_tags 0 gaps)) (left-exchanged size o a b)

merged-exchanged : {o a b : PartMet} {output : List ℕ} {w : Written} → Merged o a b output w → Merged o b a output w
merged-exchanged (strangers h) = strangers (λ size k. h size (model-exchanged k))
merged-exchanged {o} {a} {b} (conflicts size h c) = conflicts size (model-exchanged h) (conflict-exchanged o a b c)
merged-exchanged {o} {a} {b} {output} (merges size h f c l d) =
    let made : within_limits (gaps_left size o b a) (encode_part_met (merged_part f l size o b a)) output
    ≡ within_limits (gaps_left size o a b) (encode_part_met (merged_part f l size o a b)) output =
    rw (part-exchanged f l size o a b, left-exchanged size o a b) refl in
    subst (Merged o b a output) made (merges size (model-exchanged h) f (three-exchanged c) l (three-exchanged d))

pub merge-one-refused : MergeOneRefused
unfolding Merges
merge-one-refused opened first second output w h = go (decode part_met opened) (decode part_met first) (decode part_met second) refl refl
  where
    refused : (f g : Fault) → decode part_met first ≡ refusal f → decode part_met second ≡ refusal g → Accepted part_met first ⊎ Accepted part_met second → ⊥
    refused f g p q (inl a) = not-both (sym p ∙ a.1)
    refused f g p q (inr b) = not-both (sym q ∙ b.1)

    go : (o a b : Answer PartMet) → decode part_met first ≡ a → decode part_met second ≡ b → MergesAfter o a b output w → MergesAfter o b a output w
    go (refusal f) a b p q m = m
    go (accepted o) (refusal f) (refusal g) p q m = absurd (refused f g p q h)
    go (accepted o) (refusal f) (accepted b) p q m = m
    go (accepted o) (accepted a) (refusal f) p q m = m
    go (accepted o) (accepted a) (accepted b) p q m = merged-exchanged m

pub merge-exchanged : MergeExchanged
merge-exchanged opened first second output w h = merge-one-refused opened first second output w (inl h.1.0)
