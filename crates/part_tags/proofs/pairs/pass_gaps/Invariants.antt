-- The loop: the tags skipped so far, and the pairs so far; the scan of these tags and of others is that of the others after these pairs.
use Prim.Native.Nat.{◌-◌}
use Rattle.part_tags.proofs.Turns.{Passing}
use Rattle.part_tags.proofs.pairs.pass_gaps.Given as goal

abbrev pub invariant-loop-i : goal.invariant-loop-i
invariant-loop-i l = Passing l.s l.at l.count l.initial.sizes l.size l.starts l.progress l.sizes l.gap_end l.gap_count l.next l.i

abbrev pub decreases-loop-i : goal.decreases-loop-i
decreases-loop-i l = l.count - l.i
