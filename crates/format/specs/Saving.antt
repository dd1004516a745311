-- Saving a part.met. The strict save (01, "Marking, saving, searching") is made over the file that was opened, and over no other. The save
-- (02, No. 8) merges where the stored file is another.
use Rattle.std.specs.Prelude.{◌≡◌, List, ℕ}
use Rattle.format.specs.Tables.{pick, same}
use Rattle.format.specs.Messages.{PartMet, part_met}
use Rattle.format.specs.Decoding.{Fault, number, Answer, refusal, accepted}
use Rattle.format.specs.MetOrder.{decode}
use Rattle.format.specs.Writing.{Written, unwritten, written_into}
use Rattle.format.specs.Merging.{Merges}

-- The strict save

-- 11 if stored and opened differ anywhere, length included; two empty ones are equal: a first save.
abbrev pub saved_over : (stored opened new output : List ℕ) → Written
saved_over stored opened new output = pick (same stored opened) (written_into new output) (unwritten 11 output)

abbrev pub saved_after : Answer PartMet → (stored opened new output : List ℕ) → Written
saved_after (refusal f) stored opened new output = unwritten (number f.rule) output
saved_after (accepted m) stored opened new output = saved_over stored opened new output

-- The new bytes' own number; then 11; then 10.
unfoldable pub spec_save_strict : (stored opened new output : List ℕ) → Written
spec_save_strict stored opened new output = saved_after (decode part_met new) stored opened new output

-- The save: over the file that was opened it is the strict save. Over another file the new bytes' own number comes first; then it is the
-- merge, in its order, of the stored file as the first save and the new bytes as the second.
pub data Saves (stored opened new output : List ℕ) : Written → Type 0 where
  over_opened : stored ≡ opened → Saves stored opened new output (spec_save_strict stored opened new output)
  refuses_new : (stored ≡ opened → ⊥) → (f : Fault) → decode part_met new ≡ refusal f →
      Saves stored opened new output (unwritten (number f.rule) output)
  merges_new : (stored ≡ opened → ⊥) → (m : PartMet) → decode part_met new ≡ accepted m → (w : Written) → Merges opened stored new output w →
      Saves stored opened new output w
