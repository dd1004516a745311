-- The loop: the record is lawful if the gaps from there on keep the rule, the next of them starting at `low` or later.
use mathlib.Core.Path.{◌≡◌}
use mathlib.Core.List.{map}
use lib.ListN.{drop}
use Rattle.format.specs.Gaps.{ordered, size_limit}
use Rattle.gaps.specs.GapRecords.{gap_of, lawful_record}
use Rattle.gaps.proofs.is_lawful.Given as goal

abbrev pub invariant-loop-gap : goal.invariant-loop-gap
invariant-loop-gap l = lawful_record size_limit l.fn.given ≡ ordered l.fn.given.size l.low (drop l.gap-index (map gap_of l.gap-items))
