-- The bounds of gaps: their starts and ends in order, at which bytes begin and cease to be missing.
use Rattle.std.specs.Prelude.{ℕ, ◌%◌, ◌<◌, ◌≡◌, Bool, List, get_or, eqb}
use Rattle.format.specs.Gaps.{Gap}
use Rattle.format.specs.Merging.{merged_gaps}
use Rattle.gap_numbers.specs.NumberSteps.{Holds, gaps_in, gap_number_list}

abbrev pub odd : ℕ → Bool
odd n = eqb (n % 2) 1

-- The bounds of a record that is lent as numbers.
abbrev pub bounds_in : List ℕ → List ℕ
bounds_in l = gap_number_list (gaps_in l)

-- Stands for a bound where there is none: no file is as long.
abbrev pub no_bound : ℕ
no_bound = 18446744073709551615

-- The bound after those that are passed.
abbrev pub bound_after : (bounds : List ℕ) (passed : ℕ) → ℕ
bound_after bounds passed = get_or bounds passed no_bound

-- Three records of one size, each with its gaps in order.
pub record OneSize (opened first second : List ℕ) : Type 0 where
  pub holds_opened : Holds opened (get_or opened 1 0)
  pub holds_first : Holds first (get_or first 1 0)
  pub holds_second : Holds second (get_or second 1 0)
  pub first_size : get_or first 0 0 ≡ get_or opened 0 0
  pub second_size : get_or second 0 0 ≡ get_or opened 0 0
  pub below : get_or opened 0 0 < no_bound

abbrev pub outcome : (opened first second : List ℕ) → List Gap
outcome opened first second = merged_gaps (get_or opened 0 0) (gaps_in opened) (gaps_in first) (gaps_in second)
