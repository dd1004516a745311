-- The part stands at no offset from `from` up to `start`.
use Prim.Native.Nat.{◌≤◌}
use lib.ListN.{length}
use Rattle.find.proofs.Moving.{Passed}
use Rattle.find.proofs.search_from.Given as goal

abbrev pub invariant-loop-start : goal.invariant-loop-start
invariant-loop-start l = (l.from ≤ l.start) × Passed l.part l.text (λ d. length l.part) l.from l.start
