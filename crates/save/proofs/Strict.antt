-- What a strict save comes to, by what the reader says of the new bytes.
use Prim.Native.Nat.{ℕ}
use mathlib.Core.Path.{◌≡◌, refl}
use mathlib.Core.Bool.{true, false}
use mathlib.Core.List.{List}
use Rattle.format.specs.Tables.{same}
use Rattle.format.specs.Messages.{PartMet, part_met}
use Rattle.format.specs.Decoding.{Answer, refusal, accepted, message, refused_with, reply}
use Rattle.format.specs.MetOrder.{decode}
use Rattle.format.specs.Writing.{unwritten, written_into}
use Rattle.format.specs.Saving.{spec_save_strict, saved_after, saved_over}

module _ (stored opened new output : List ℕ) where
  after-refused : (a : Answer PartMet) (n : ℕ) → refused_with n ≡ reply a →
      saved_after a stored opened new output ≡ unwritten n output
  after-refused (refusal f) n e = cc
  after-refused (accepted m) n e = cc

  after-accepted : (a : Answer PartMet) (m : PartMet) → message m ≡ reply a →
      saved_after a stored opened new output ≡ saved_over stored opened new output
  after-accepted (refusal f) m e = cc
  after-accepted (accepted m) n e = refl

  pub strict-refused : (n : ℕ) → refused_with n ≡ reply (decode part_met new) → spec_save_strict stored opened new output ≡ unwritten n output
  unfolding spec_save_strict
  strict-refused n e = after-refused (decode part_met new) n e

  strict-accepted : (m : PartMet) → message m ≡ reply (decode part_met new) →
      spec_save_strict stored opened new output ≡ saved_over stored opened new output
  unfolding spec_save_strict
  strict-accepted m e = after-accepted (decode part_met new) m e

  pub strict-conflict : (m : PartMet) → message m ≡ reply (decode part_met new) → false ≡ same stored opened →
      spec_save_strict stored opened new output ≡ unwritten 11 output
  strict-conflict m e differ = rw (strict-accepted m e, ← differ) refl

  pub strict-over : (m : PartMet) → message m ≡ reply (decode part_met new) → true ≡ same stored opened →
      spec_save_strict stored opened new output ≡ written_into new output
  strict-over m e equal = rw (strict-accepted m e, ← equal) refl

-- Of the stored file and the opened one it counts only whether they are equal.
pub strict_same : (a b c d new output : List ℕ) → same a b ≡ same c d → spec_save_strict a b new output ≡ spec_save_strict c d new output
unfolding spec_save_strict
strict_same a b c d new output e = go (decode part_met new)
  where
    go : (r : Answer PartMet) → saved_after r a b new output ≡ saved_after r c d new output
    go (refusal f) = refl
    go (accepted m) = rw e refl
