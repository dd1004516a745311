-- A tag moves the walker on inside the bytes, and at any other step, of which two are wanted, it stays.
use Rattle.std.proofs.Common.{◌-◌, ◌+◌, ◌≤◌, length}
use Rattle.test_walker.proofs.walk.Given as goal

abbrev pub invariant-loop-stops : goal.invariant-loop-stops
invariant-loop-stops g l = l.stops ≤ 2

abbrev pub decreases-loop-stops : goal.decreases-loop-stops
decreases-loop-stops g l = (2 - l.stops) + (length l.w.tags.now + 1 - l.w.at)
