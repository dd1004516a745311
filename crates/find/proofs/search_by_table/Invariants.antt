-- The loop is as Searching says. By the measure it ends within 9 turns for each byte of the text, and one.
use Prim.Native.Nat.{◌+◌, ◌-◌, ◌*◌}
use lib.ListN.{length}
use Rattle.find.proofs.Moving.{Searching}
use Rattle.find.proofs.search_by_table.Given as goal

abbrev pub invariant-loop-start : goal.invariant-loop-start
invariant-loop-start l = Searching l.part l.text l.start l.matched

abbrev pub decreases-loop-start : goal.decreases-loop-start
decreases-loop-start l = 9 * length l.text + 1 - (9 * l.start + l.matched)
