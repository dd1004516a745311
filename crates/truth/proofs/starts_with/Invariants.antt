-- From byte i on the beginning is still to be compared (the laws `prefix-..` of Texts).
use Prim.Native.Nat.{◌≤◌, ◌-◌}
use mathlib.Core.Path.{◌≡◌}
use lib.ListN.{length, drop}
use Rattle.format.specs.Truth.{prefix}
use Rattle.truth.proofs.starts_with.Given as goal

abbrev pub invariant-loop-i : goal.invariant-loop-i
invariant-loop-i l = (l.i ≤ length l.t) × ((length l.t ≤ length l.s) × (prefix l.t l.s ≡ prefix (drop l.i l.t) (drop l.i l.s)))

abbrev pub decreases-loop-i : goal.decreases-loop-i
decreases-loop-i l = length l.t - l.i
