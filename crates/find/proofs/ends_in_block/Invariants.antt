-- Nothing is found so far exactly where no offset so far has the two bytes.
use mathlib.Core.Path.{◌≡◌}
use mathlib.Core.Logic.{◌↔◌}
use Rattle.find.specs.Shifts.{NoEnds}
use Rattle.find.proofs.ends_in_block.Given as goal

abbrev pub invariant-loop-i : goal.invariant-loop-i
invariant-loop-i l = (l.found ≡ 0) ↔ NoEnds l.text l.from l.reach l.first l.last l.i
