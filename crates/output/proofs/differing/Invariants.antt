-- No byte differs so far exactly where the bytes so far agree.
use Prim.Native.Nat.{◌≤◌}
use mathlib.Core.Path.{◌≡◌}
use mathlib.Core.Logic.{◌↔◌}
use Rattle.output.specs.Agreement.{Agree}
use Rattle.output.proofs.differing.Given as goal

abbrev pub invariant-loop-i : goal.invariant-loop-i
invariant-loop-i l = (l.i ≤ 128) × (l.differ ≤ l.i) × ((l.differ ≡ 0) ↔ Agree l.a l.b l.at l.i)
