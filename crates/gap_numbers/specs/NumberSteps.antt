-- What the private steps of the marking answer.
use Rattle.std.specs.Prelude.{ℕ, ◌-◌, ◌≤◌, ◌<◌, ◌≡◌, List, ◌++◌, map, length, get_or, take, drop, replicate}
use Rattle.std.proofs.Math.Seq.{paste}
use Rattle.format.specs.Gaps.{Gap, Ordered, total, between, subtract}
use Rattle.format.specs.Writing.{overwritten}
use Rattle.gaps.specs.GapRecords.{place_of, gaps_of, spec_record_of}
use Rattle.gap_numbers.specs.declared.Touched.{Touched}
use Rattle.gap_numbers.specs.Numbers.{pair_numbers, numbers_of, held}

abbrev pub gaps_in : List ℕ → List Gap
gaps_in l = gaps_of (held l)

abbrev pub gap_number_list : List Gap → List ℕ
gap_number_list gaps = pair_numbers (map place_of gaps)

-- Numbers that hold n gaps in order.
pub record Holds (l : List ℕ) (n : ℕ) : Type 0 where
  pub long : 130 ≤ length l
  pub counted : n ≡ get_or l 1 0
  pub few : n ≤ 64
  pub ordered : Ordered (get_or l 0 0) 0 (gaps_in l)

-- The first i gaps end by `start`: they are left as they are, wherever the range ends.
pub record EndBy (l : List ℕ) (start i : ℕ) : Type 0 where
  pub passed : i ≤ get_or l 1 0
  pub joined : (end : ℕ) → start < end → take i (gaps_in l) ++ subtract (drop i (gaps_in l)) start end ≡ subtract (gaps_in l) start end

-- What a range leaves of gaps from `low` up to `high` that it touches: a gap before it and one after it, where these have bytes.
abbrev pub pieces : (start end low high : ℕ) → List Gap
pieces start end low high = between low start ++ between end high

-- The range touches the gaps from `first` up to `next`, and `missing` bytes are missing without it.
pub record Touches (l : List ℕ) (start end : ℕ) (t : Touched) : Type 0 where
  pub begun : t.first ≤ t.next
  pub passed : t.next ≤ get_or l 1 0
  pub left : take t.first (gaps_in l) ++ (pieces start end t.low t.high ++ drop t.next (gaps_in l)) ≡ subtract (gaps_in l) start end
  pub weighed : t.missing ≡ total (subtract (gaps_in l) start end)

-- What the range leaves of n gaps has a place in the record.
pub record Replaceable (l : List ℕ) (n start end : ℕ) (t : Touched) (count : ℕ) : Type 0 where
  pub holds : Holds l n
  pub touches : Touches l start end t
  pub counted : count ≡ length (subtract (gaps_in l) start end)
  pub few : count ≤ 64

-- The numbers of a record from `from` on become 0.
abbrev pub cleared : List ℕ → (from : ℕ) → List ℕ
cleared l from = paste l from (replicate (130 - from) 0) (130 - from)

-- The record at the front holds these gaps.
abbrev pub holding : List Gap → List ℕ → List ℕ
holding gaps l = overwritten (numbers_of (spec_record_of (get_or l 0 0) gaps)) l
