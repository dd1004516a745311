-- The bounds are the numbers from place 2 on (`bound_at`, `length-bounds` of Numbers).
use native.Mathlib.Omega.{arith}
use mathlib.Core.Path.{sym}
use lib.ListN.{get_or-eq_default}
use Rattle.merge_gaps.specs.Bounds.{no_bound, bounds_in}
use Rattle.merge_gaps.proofs.Numbers.{length-bounds, bound_at}
use Rattle.merge_gaps.proofs.next_bound.Goals as goal

pub returns-then-passed-bounds : goal.returns-then-passed-bounds
returns-then-passed-bounds c = sym (bound_at c.requires.0 c.args.passed (omega arith))

pub returns-else-passed-bounds : goal.returns-else-passed-bounds
returns-else-passed-bounds c = sym (get_or-eq_default (bounds_in c.args.numbers.now) no_bound {n = c.args.passed} (omega (arith, length-bounds c.requires.0)))
