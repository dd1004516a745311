-- From place i on the bytes are still to be compared (`same_next`, `same_stop`, `same-done` of Laws).
use Prim.Native.Nat.{◌≤◌}
use mathlib.Core.Path.{◌≡◌}
use lib.ListN.{drop}
use Rattle.format.specs.Tables.{same}
use Rattle.output.proofs.same_from.Given as goal

abbrev pub invariant-loop-i : goal.invariant-loop-i
invariant-loop-i l = (l.i ≤ l.n) × (same (drop l.at l.a) (drop l.at l.b) ≡ same (drop l.i l.a) (drop l.i l.b))
