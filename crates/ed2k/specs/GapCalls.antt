-- The calls over a gap record as numbers (gap_numbers/specs/Numbers).
use Rattle.std.specs.Prelude.{ℕ, ◌≡◌, List, length, leb, eqb}
use Rattle.format.specs.Tables.{pick}
use Rattle.format.specs.Gaps.{size_limit}
use Rattle.format.specs.Writing.{overwritten}
use Rattle.gaps.specs.declared.GapRecord.{GapRecord}
use Rattle.gaps.specs.Marking.{MarkAnswer}
use Rattle.gaps.specs.GapRecords.{spec_all_missing, lawful_record, missing_count}
use Rattle.gap_numbers.specs.Numbers.{numbers_of}
use Rattle.met.specs.MetAnswers.{GapsAnswer}
use Rattle.ed2k.specs.Calls.{Numbered, numbered}

-- A record that is returned: 10 where the array has fewer than 130 places.
abbrev pub record_out : GapRecord → List ℕ → Numbered
record_out g old = pick (leb 130 (length old)) (numbered 0 (overwritten (numbers_of g) old)) (numbered 10 old)

abbrev pub gaps_read : GapsAnswer → List ℕ → Numbered
gaps_read a old = pick (eqb a.number 0) (record_out a.gaps old) (numbered a.number old)

abbrev pub all_missing_out : ℕ → List ℕ → Numbered
all_missing_out size old = pick (leb size size_limit) (record_out (spec_all_missing size) old) (numbered 8 old)

-- The bytes that a record misses: the number, and the count, which is 0 for a record that is not lawful.
pub record Counts (g : GapRecord) (number count : ℕ) : Type 0 where
  pub told : number ≡ pick (lawful_record size_limit g) 0 8
  pub missing : count ≡ missing_count size_limit g

-- What a marking returns beside the record: its number, and how many bytes are left, 0 where it is refused.
abbrev pub counted : (number missing : ℕ) → MarkAnswer
counted number missing = record { number = number; missing = missing }
