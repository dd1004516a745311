-- What the private steps of the marking answer: None where a record has no place for a gap.
use Rattle.std.specs.Prelude.{ℕ, ◌+◌, min, max, cond, length, set, leb, ltb, Option, Some, None, option_and_then}
use Rattle.format.specs.Gaps.{gap_limit, Gap, subtract}
use Rattle.gaps.specs.declared.GapRecord.{GapRecord}
use Rattle.gaps.specs.GapRecords.{place, gaps_of, spec_record_of}

-- the gap from a up to b is added, if it holds a byte and a place is free
unfoldable pub pushed : GapRecord → ℕ → ℕ → Option GapRecord
pushed g a b =
    cond (ltb a b)
    (cond (ltb g.count gap_limit) (Some (record { size = g.size; count = g.count + 1; gaps = set g.gaps g.count (place a b) })) None)
    (Some g)

-- what is left of the gap x on either side of the range is added
unfoldable pub pushed_remaining : GapRecord → Gap → ℕ → ℕ → Option GapRecord
pushed_remaining g x start end = option_and_then (λ before. pushed before (max x.start end) x.end) (pushed g x.start (min x.end start))

-- the range is taken out of all gaps
unfoldable pub subtracted : GapRecord → ℕ → ℕ → Option GapRecord
subtracted g start end =
    let gaps = subtract (gaps_of g) start end in
    cond (leb (length gaps) gap_limit) (Some (spec_record_of g.size gaps)) None
