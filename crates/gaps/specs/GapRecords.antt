-- Gap records: the gaps that a record holds, when it is lawful, how many bytes it misses.
use Rattle.std.specs.Prelude.{ℕ, ◌-◌, Bool, ◌&&◌, cond, List, [], ◌++◌, map, length, take, replicate, leb}
use Rattle.format.specs.Gaps.{gap_limit, Gap, gap, missing, lawful, count, between}
use Rattle.gaps.specs.declared.Gap.{Gap as Place}
use Rattle.gaps.specs.declared.GapRecord.{GapRecord}

-- A place of a record (document 01's term; the code's `Gap`), and the gap that it holds
abbrev pub place : ℕ → ℕ → Place
place a b = record { start = a; end = b }

abbrev pub place_of : Gap → Place
place_of g = place g.start g.end

abbrev pub gap_of : Place → Gap
gap_of x = gap x.start x.end

-- the gaps of a record: those of its counted places
abbrev pub gaps_of : GapRecord → List Gap
gaps_of g = map gap_of (take g.count g.gaps)

-- the record of a size and a list of gaps; the unused places hold 0
abbrev pub spec_record_of : ℕ → List Gap → GapRecord
spec_record_of size gaps = record { size = size; count = length gaps; gaps = map place_of gaps ++ replicate (gap_limit - length gaps) (place 0 0) }

abbrev pub spec_none_missing : ℕ → GapRecord
spec_none_missing size = spec_record_of size []

abbrev pub spec_all_missing : ℕ → GapRecord
spec_all_missing size = spec_record_of size (between 0 size)

-- A lawful gap record, as document 01 says. Its unused places are not checked.
unfoldable pub lawful_record : ℕ → GapRecord → Bool
lawful_record limit g = leb g.count gap_limit && lawful limit g.size (gaps_of g)

-- the number of missing bytes; 0 for a record that is not lawful
unfoldable pub missing_count : ℕ → GapRecord → ℕ
missing_count limit g = cond (lawful_record limit g) (count (missing (gaps_of g)) g.size) 0
