-- The outcome of three files of one model: what is chosen is the merged part.met, and the limits.
use Prim.Native.Nat.{ℕ, ◌≤◌, ◌<◌, max}
use mathlib.Core.Path.{◌≡◌, refl, sym, ap, subst, ◌∙◌}
use mathlib.Core.Option.{some}
use mathlib.Core.List.{List}
use lib.ListN.{length}
use Rattle.std.proofs.Common.{Option, None, Result, Err, IsErrAnd, ok_or}
use Rattle.wire.proofs.Steps.{propagated}
use Rattle.output.specs.declared.Refusal.{Refusal}
use borrow.Author.Tests.{le-leb, lt-leb}
use Rattle.format.specs.Messages.{PartMet}
use Rattle.format.specs.Layout.{encode_part_met}
use Rattle.format.specs.Gaps.{Gap, gap_limit}
use Rattle.format.specs.PutGaps.{plain_tags, tags_of, within_ceiling}
use Rattle.format.specs.Writing.{Written, unwritten}
use Rattle.format.specs.Merging.{FormChoice, Merged, OneModel, TagsChoice, date_of, form_of, gaps_left, merged_part, merges, within_limits}
use Rattle.met.specs.declared.PartMet as code
use Rattle.met.specs.MetAnswers.{part_met_in}
use Rattle.merge_write.specs.Outcome.{joined}
use Rattle.merge.specs.declared.Save.{Save}
use Rattle.merge.specs.Choices.{date_in, save_of}

-- A refusal where there is no value.
pub refused-none : {A : Type 0} (r : Result ℕ Refusal) (o : Option A) {e given : Refusal} → IsErrAnd r (λ g. g ≡ e) →
    ◌≡◌ {A = Result A Refusal} (Err e) (ok_or o given) → o ≡ None → r ≡ Err given
refused-none {A} r o {e} {given} h value none =
    let same : ◌≡◌ {A = Result A Refusal} (Err e) (Err given) = value ∙ ap (λ o. ok_or o given) none in
    let error : e ≡ given = cc in
    propagated r h ∙ ap Err error

pub date-in : (s : List ℕ) (part : code.PartMet) → date_in part ≡ date_of (part_met_in s part)
date-in s (code.PartMet.E0 e) = refl
date-in s (code.PartMet.E1 m) = refl

module _ (size : ℕ) (o a b : PartMet) (one : OneModel size o a b) (form tags : Save) where
  abbrev made : PartMet
  made = merged_part (save_of form (form_of a) (form_of b)) (save_of tags (plain_tags (tags_of a)) (plain_tags (tags_of b))) size o a b

  pub chosen-part : (date : ℕ) → date ≡ max (date_of a) (date_of b) → (gaps : List Gap) → gaps ≡ gaps_left size o a b →
      joined (save_of form a b) date (save_of tags a b) gaps ≡ made
  chosen-part date d gaps g = go form tags
    where
      go : (form tags : Save) → joined (save_of form a b) date (save_of tags a b) gaps ≡
          merged_part (save_of form (form_of a) (form_of b)) (save_of tags (plain_tags (tags_of a)) (plain_tags (tags_of b))) size o a b
      go Save.First Save.First = rw (d, g, one.hashes.0) refl
      go Save.First Save.Second = rw (d, g, one.hashes.0) refl
      go Save.Second Save.First = rw (d, g, one.hashes.1) refl
      go Save.Second Save.Second = rw (d, g, one.hashes.1) refl

  module _ (output : List ℕ) (c : FormChoice o a b (some (save_of form (form_of a) (form_of b))))
      (d : TagsChoice o a b (some (save_of tags (plain_tags (tags_of a)) (plain_tags (tags_of b))))) where
    pub too_many : gap_limit < length (gaps_left size o a b) → Merged o a b output (unwritten 6 output)
    too_many h =
        subst (Merged o a b output) (rw (lt-leb (length (gaps_left size o a b)) gap_limit h) refl) (merges size one _ c _ d)

    pub within-limits : length (gaps_left size o a b) ≤ gap_limit → (date : ℕ) → date ≡ max (date_of a) (date_of b) →
        (gaps : List Gap) → gaps ≡ gaps_left size o a b → (w : Written) →
        w ≡ within_ceiling (encode_part_met (joined (save_of form a b) date (save_of tags a b) gaps)) output → Merged o a b output w
    within-limits h date p gaps q w e =
        let limits : within_limits (gaps_left size o a b) (encode_part_met made) output ≡ within_ceiling (encode_part_met made) output =
        rw (le-leb (length (gaps_left size o a b)) gap_limit h) refl in
        let chosen = ap (λ m. within_ceiling (encode_part_met m) output) (chosen-part date p gaps q) in
        subst (Merged o a b output) (limits ∙ sym (e ∙ chosen)) (merges size one _ c _ d)
