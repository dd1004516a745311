-- The number is at most 10 * 99999999 + 15, so that no step overflows.
use Rattle.std.proofs.Common.{◌<◌}
use Rattle.test_merge.proofs.read_decimal.Given as goal

abbrev pub invariant-loop-digit : goal.invariant-loop-digit
invariant-loop-digit l = l.number < 1000000006
