-- What a save comes to, by what the comparison says; and over another file than the opened one, by what the reader says of the new bytes.
use Prim.Native.Nat.{ℕ}
use mathlib.Core.Path.{◌≡◌, refl, sym, subst, ◌∙◌}
use mathlib.Core.Bool.{Bool, true, false}
use mathlib.Core.List.{List, []}
use Rattle.format.specs.Tables.{same}
use Rattle.format.specs.Messages.{PartMet, part_met}
use Rattle.format.specs.Decoding.{Answer, Reply, accepted, number, refusal, refused_with, reply}
use Rattle.format.specs.MetOrder.{decode}
use Rattle.format.specs.Writing.{Written, unwritten}
use Rattle.format.specs.Merging.{Merges}
use Rattle.format.specs.Saving.{Saves, merges_new, over_opened, refuses_new, spec_save_strict}
use Rattle.format.proofs.Differ.{differ}
use Rattle.format.proofs.Gaps.{never}
use Rattle.format.proofs.PartTags.{same_refl, same_true}
use Rattle.save.proofs.Strict.{strict_same}
use Rattle.merge.specs.Choices.{ReadAs}
use Rattle.merge.proofs.Answers.{accepted-as, read_of, refused-of}
use Rattle.met.specs.declared.PartGaps.{PartGaps}
use Rattle.met.specs.declared.PartMet as code
use Rattle.std.specs.Prelude.{Result, Ok, Err}
use Rattle.wire.specs.declared.Rule.{Rule}
use Rattle.wire.specs.WireAnswers.{rule_meaning}

-- What a comparison says.
pub equal-files : (stored opened : List ℕ) (t : Bool) → t ≡ same stored opened → t ≡ true → stored ≡ opened
equal-files stored opened t e h = same_true stored opened (sym e ∙ h)

pub other-files : (stored opened : List ℕ) (t : Bool) → t ≡ same stored opened → t ≡ false → stored ≡ opened → ⊥
other-files stored opened t e h q = never (same stored opened) (rw q (same_refl opened)) (sym e ∙ h)

pub over-opened : (stored opened new output : List ℕ) (w : Written) → stored ≡ opened → w ≡ spec_save_strict [] [] new output → Saves stored opened new output w
over-opened stored opened new output w e h =
    let equal : same [] [] ≡ same stored opened = rw e (same_refl [] ∙ sym (same_refl opened)) in
    subst (Saves stored opened new output) (sym (h ∙ strict_same [] [] stored opened new output equal)) (over_opened e)

same_number : {n k : ℕ} → ◌≡◌ {A = Reply PartMet} (refused_with n) (refused_with k) → n ≡ k
same_number e = cc

-- What was read of the new bytes: refused, or accepted.
module _ (stored opened new output starts : List ℕ) (other : stored ≡ opened → ⊥) (r : Result (code.PartMet × PartGaps) Rule) (h : ReadAs new starts r) where
  pub own-refused : (rule : Rule) → r ≡ Err rule → Saves stored opened new output (unwritten (number (rule_meaning rule)) output)
  own-refused rule e = go (decode part_met new) refl (refused-of new starts r rule e h)
    where
      go : (a : Answer PartMet) → decode part_met new ≡ a → refused_with (number (rule_meaning rule)) ≡ reply a →
          Saves stored opened new output (unwritten (number (rule_meaning rule)) output)
      go (refusal f) p e = subst (λ k. Saves stored opened new output (unwritten k output)) (sym (same_number e)) (refuses_new other f p)
      go (accepted m) p e = differ cc

  pub own-accepted : (part : code.PartMet) (gaps : PartGaps) → r ≡ Ok (part, gaps) → (w : Written) → Merges opened stored new output w → Saves stored opened new output w
  own-accepted part gaps e w k = merges_new other _ (accepted-as (decode part_met new) _ (read_of new starts r part gaps e h)) w k
