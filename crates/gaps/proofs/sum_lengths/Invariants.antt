-- The loop: the sum so far and the lengths of the gaps from there on are the whole.
use Prim.Native.Nat.{◌+◌}
use mathlib.Core.Path.{◌≡◌}
use mathlib.Core.List.{map}
use lib.ListN.{drop}
use Rattle.format.specs.Gaps.{Ordered, total}
use Rattle.gaps.specs.GapRecords.{gap_of, gaps_of}
use Rattle.gaps.proofs.sum_lengths.Given as goal

abbrev pub invariant-loop-gap : goal.invariant-loop-gap
invariant-loop-gap l =
    let left = drop l.gap-index (map gap_of l.gap-items) in
    Ordered l.fn.given.size 0 left × (l.sum + total left ≡ total (gaps_of l.fn.given))
