-- The part stands at no offset before `start`.
use Prim.Native.Nat.{◌-◌, ◌≤◌}
use lib.ListN.{length}
use Rattle.find.proofs.Moving.{Passed}
use Rattle.find.proofs.search_blocks.Given as goal

abbrev pub invariant-loop-start : goal.invariant-loop-start
invariant-loop-start l = (l.start ≤ l.end) × Passed l.part l.text (λ d. length l.part) 0 l.start

abbrev pub decreases-loop-start : goal.decreases-loop-start
decreases-loop-start l = l.end - l.start
