-- A gap record as 130 numbers: the size, how many gaps, then 64 pairs of start and end; a judgement and a marking of such numbers.
use Rattle.std.specs.Prelude.{ℕ, zero, suc, ◌≡◌, List, [], ◌∷◌, length, get_or, drop, replicate, leb, eqb, Option, is_some, unwrap_or}
use Rattle.format.specs.Gaps.{size_limit}
use Rattle.format.specs.Tables.{pick}
use Rattle.format.specs.Writing.{overwritten}
use Rattle.gaps.specs.declared.Gap.{Gap}
use Rattle.gaps.specs.declared.GapRecord.{GapRecord}
use Rattle.gaps.specs.GapRecords.{place, lawful_record, missing_count}
use Rattle.gaps.specs.Marking.{MarkAnswer, MarkOutcome, answer_of}

unfoldable pub pair_numbers : List Gap → List ℕ
pair_numbers [] = []
pair_numbers (x ∷ l) = x.start ∷ x.end ∷ pair_numbers l

abbrev pub numbers_of : GapRecord → List ℕ
numbers_of g = g.size ∷ g.count ∷ pair_numbers g.gaps

-- The first n pairs of the numbers.
unfoldable pub pairs_in : ℕ → List ℕ → List Gap
pairs_in zero l = []
pairs_in (suc n) l = place (get_or l 0 0) (get_or l 1 0) ∷ pairs_in n (drop 2 l)

-- The record of 130 numbers or more.
abbrev pub held : List ℕ → GapRecord
held l = record { size = get_or l 0 0; count = get_or l 1 0; gaps = pairs_in 64 (drop 2 l) }

-- Fewer than 130 numbers are a record that is not lawful: it counts more gaps than it has places.
abbrev pub no_gap_record : GapRecord
no_gap_record = record { size = 0; count = 65; gaps = replicate 64 (place 0 0) }

unfoldable pub record_in : List ℕ → GapRecord
record_in l = pick (leb 130 (length l)) (held l) no_gap_record

-- Whether a record is lawful, which an answer with a number says, and how many bytes it misses: 0 if it is not lawful.
pub record Judges (g : GapRecord) (answer : Option ℕ) : Type 0 where
  pub told : is_some answer ≡ lawful_record size_limit g
  pub counted : unwrap_or answer 0 ≡ missing_count size_limit g

-- A marking over numbers: its answer, and the numbers afterwards. The new record stands at the front; a refusal leaves them as they were.
pub record MarksNumbers (m : MarkOutcome) (answer : MarkAnswer) (old new : List ℕ) : Type 0 where
  pub told : answer ≡ answer_of m
  pub numbers : new ≡ pick (eqb m.number 0) (overwritten (numbers_of m.after) old) old
