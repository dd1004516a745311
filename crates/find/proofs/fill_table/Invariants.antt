-- The loop is as Filling says. By the measure it ends within 10 turns for each byte of the part.
use Prim.Native.Nat.{◌+◌, ◌-◌, ◌*◌}
use mathlib.Core.Path.{◌≡◌}
use lib.ListN.{length}
use Rattle.find.proofs.Filling.{Filling}
use Rattle.find.proofs.fill_table.Given as goal

abbrev pub invariant-loop-sample : goal.invariant-loop-sample
invariant-loop-sample l = Filling l.part l.table l.start l.matched l.sample × (length l.table ≡ length l.initial.table)

abbrev pub decreases-loop-sample : goal.decreases-loop-sample
decreases-loop-sample l = 10 * length l.part + 1 - (9 * l.start + l.matched + l.sample)
