-- Marking (document 01's term): the bytes from `start` up to `end` have arrived. Its answers, and what a sequence of markings leaves.
use Rattle.std.specs.Prelude.{ℕ, ◌≤◌, ◌<◌, Bool, ◌&&◌, cond, List, [], ◌∷◌, eqb, Result, Ok, Err}
use Rattle.format.specs.Gaps.{gap_limit, Gap, Lawful, missing, Marking, rejected, leaves, inside, marking}
use Rattle.gaps.specs.declared.GapRecord.{GapRecord}
use Rattle.gaps.specs.declared.Marked.{Marked}
use Rattle.gaps.specs.declared.Unmarked.{Unmarked}
use Rattle.gaps.specs.GapRecords.{gaps_of, spec_record_of, lawful_record}
use Rattle.output.specs.declared.Refusal.{Refusal}
use Rattle.output.specs.WriteAnswers.{refusal_number}

-- what a marking needs, else it is refused with 8
pub record Markable (limit : ℕ) (g : GapRecord) (start end : ℕ) : Type 0 where
  pub counted : g.count ≤ gap_limit
  pub lawful : Lawful limit g.size (gaps_of g)
  pub order : start < end
  pub inside : end ≤ g.size

-- the same as a test
unfoldable pub markable : ℕ → GapRecord → ℕ → ℕ → Bool
markable limit g start end = lawful_record limit g && inside g.size start end

-- The answer to a marking in numbers: 0 or the number of the refusal, how many bytes are still missing (0 on a refusal), and the record
-- afterwards (on a refusal the one given).
pub record MarkOutcome : Type 0 where
  pub number : ℕ
  pub missing : ℕ
  pub after : GapRecord

-- the same without the record
pub record MarkAnswer : Type 0 where
  pub number : ℕ
  pub missing : ℕ

-- a refusal returns the record given, and no count
abbrev pub refusal : ℕ → GapRecord → MarkOutcome
refusal number g = record { number = number; missing = 0; after = g }

-- the gaps that are left, and the number of bytes still missing
abbrev pub acceptance : GapRecord → List Gap → ℕ → MarkOutcome
acceptance g gaps missing = record { number = 0; missing = missing; after = spec_record_of g.size gaps }

abbrev pub answered : GapRecord → Marking → MarkOutcome
answered g (rejected number) = refusal number g
answered g (leaves gaps missing) = acceptance g gaps missing

unfoldable pub marked : ℕ → GapRecord → ℕ → ℕ → MarkOutcome
marked limit g start end = answered g (marking (markable limit g start end) g.size (gaps_of g) start end)

abbrev pub answer_of : MarkOutcome → MarkAnswer
answer_of m = record { number = m.number; missing = m.missing }

-- what the answer of `mark` stands for
abbrev pub mark_meaning : Result Marked Unmarked → MarkOutcome
mark_meaning (Ok m) = record { number = 0; missing = m.missing; after = m.after }
mark_meaning (Err u) = refusal (refusal_number u.refusal) u.given

-- the answer of `mark` without the record
abbrev pub without_record : Result Marked Unmarked → Result ℕ Refusal
without_record (Ok m) = Ok m.missing
without_record (Err u) = Err u.refusal

-- what the answer of a marking in place stands for
abbrev pub answer_meaning : Result ℕ Refusal → MarkAnswer
answer_meaning (Ok missing) = record { number = 0; missing = missing }
answer_meaning (Err r) = record { number = refusal_number r; missing = 0 }

-- A sequence of markings. A range is written as the gap that it would be.

-- byte x lies in one of the ranges
abbrev pub covered : List Gap → ℕ → Bool
covered ranges x = missing ranges x

-- the record after marking each range in turn
unfoldable pub mark_all : ℕ → GapRecord → List Gap → GapRecord
mark_all limit g [] = g
mark_all limit g (r ∷ ranges) = mark_all limit (marked limit g r.start r.end).after ranges

-- those of the ranges whose marking is accepted
unfoldable pub accepted_ranges : ℕ → GapRecord → List Gap → List Gap
accepted_ranges limit g [] = []
accepted_ranges limit g (r ∷ ranges) =
    let m = marked limit g r.start r.end in
    let rest = accepted_ranges limit m.after ranges in
    cond (eqb m.number 0) (r ∷ rest) rest
