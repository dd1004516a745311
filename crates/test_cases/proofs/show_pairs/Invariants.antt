-- No count is above the number of pairs.
use Rattle.std.proofs.Common.{◌≤◌}
use Rattle.test_cases.proofs.show_pairs.Given as goal

abbrev pub invariant-loop : goal.invariant-loop
invariant-loop g l = (l.tally.accepted ≤ l.counter) × (l.tally.equal ≤ l.counter)
