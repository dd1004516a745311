-- A line ends after its beginning, so that what is left of the text gets shorter.
use Rattle.std.proofs.Common.{◌-◌}
use Rattle.test_truth.proofs.print_cases.Given as goal

abbrev pub decreases-loop-at : goal.decreases-loop-at
decreases-loop-at g l = l.length - l.at
