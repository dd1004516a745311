-- Order does not matter (02, No. 12): two saves may change places in a merge and in time, two ranges may be marked in either order.
-- proofs/EitherOrder shows that all of it holds.
use Rattle.std.specs.Prelude.{◌≡◌, ◌⊎◌, List, ℕ, take}
use Rattle.format.specs.Messages.{part_met}
use Rattle.format.specs.Gaps.{Gap, leaves}
use Rattle.format.specs.Writing.{Written}
use Rattle.format.specs.Merging.{Merges}
use Rattle.format.specs.Saving.{Saves}
use Rattle.format.specs.Demands.{Accepted, one_marking}

-- Each of the three files is accepted by itself.
abbrev pub AllAccepted : (opened first second : List ℕ) → Type 0
AllAccepted opened first second = Accepted part_met opened × (Accepted part_met first × Accepted part_met second)

-- What a merge answers, it answers with the two saves exchanged: the same number and length, and the same output, byte for byte.
abbrev pub MergeExchanged : Type 0
MergeExchanged =
    (opened first second output : List ℕ) (w : Written) → AllAccepted opened first second →
    Merges opened first second output w → Merges opened second first output w

-- One of the saves may be refused by itself: only where both are can the order be seen, in whose number comes first.
abbrev pub MergeOneRefused : Type 0
MergeOneRefused =
    (opened first second output : List ℕ) (w : Written) → Accepted part_met first ⊎ Accepted part_met second →
    Merges opened first second output w → Merges opened second first output w

-- So any two answers, one to each order, are equal.
abbrev pub MergeEitherOrder : Type 0
MergeEitherOrder =
    (opened first second output : List ℕ) (v w : Written) → AllAccepted opened first second →
    Merges opened first second output v → Merges opened second first output w → v ≡ w

-- Over another file than the one opened, a save is the merge with either of the two as the first save.
abbrev pub SaveExchanged : Type 0
SaveExchanged =
    (stored opened new output : List ℕ) (w : Written) → AllAccepted opened stored new → (stored ≡ opened → ⊥) →
    Saves stored opened new output w → Merges opened new stored output w

-- So where both windows changed the file that they opened, the stored file and the new bytes may change places.
abbrev pub SaveEitherOrder : Type 0
SaveEitherOrder =
    (stored opened new output : List ℕ) (v w : Written) → AllAccepted opened stored new → (stored ≡ opened → ⊥) → (new ≡ opened → ⊥) →
    Saves stored opened new output v → Saves new opened stored output w → v ≡ w

-- Two windows opened one file, and each saves once: the first over the file that both opened, the second over what the first has stored.
-- The output is the one that is lent to the second.
pub record SavedInTurn (opened first second output : List ℕ) (w : Written) : Type 0 where
  pub lent : List ℕ
  pub one : Written
  pub saved : Saves opened opened first lent one
  pub accepted : one.number ≡ 0
  pub other : Saves (take one.length one.output) opened second output w

-- Whichever window saves first, the one that saves second has the same answer.
abbrev pub TwoWindows : Type 0
TwoWindows =
    (opened first second output : List ℕ) (v w : Written) → Accepted part_met opened → (first ≡ opened → ⊥) → (second ≡ opened → ⊥) →
    SavedInTurn opened first second output v → SavedInTurn opened second first output w → v ≡ w

-- Two ranges are marked one after the other, and neither marking is refused: the gaps that are left, and the number of missing bytes.
pub record MarkedInTurn (limit size : ℕ) (gaps : List Gap) (first second : Gap) (left : List Gap) (missing : ℕ) : Type 0 where
  pub between : List Gap
  pub missing_between : ℕ
  pub one : one_marking limit size gaps first ≡ leaves between missing_between
  pub other : one_marking limit size between second ≡ leaves left missing

abbrev pub MarkEitherOrder : Type 0
MarkEitherOrder =
    (limit size : ℕ) (gaps : List Gap) (first second : Gap) (left : List Gap) (missing : ℕ) (left' : List Gap) (missing' : ℕ) →
    MarkedInTurn limit size gaps first second left missing → MarkedInTurn limit size gaps second first left' missing' →
    (left ≡ left') × (missing ≡ missing')

-- All of them.
pub record EitherOrder : Type 0 where
  pub merge_exchanged : MergeExchanged
  pub merge_one_refused : MergeOneRefused
  pub merge_either_order : MergeEitherOrder
  pub save_exchanged : SaveExchanged
  pub save_either_order : SaveEitherOrder
  pub two_windows : TwoWindows
  pub mark_either_order : MarkEitherOrder
