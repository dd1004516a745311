-- The bytes before i agree.
use Rattle.find.specs.Shifts.{Agrees}
use Rattle.find.proofs.stands_at.Given as goal

abbrev pub invariant-loop-i : goal.invariant-loop-i
invariant-loop-i l = Agrees l.part l.text l.start l.i
