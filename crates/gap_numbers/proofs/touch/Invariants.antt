-- Up to `next` the gaps that the range touches are joined into one, and their bytes in it counted (`Touching` of Loops).
use Rattle.gap_numbers.proofs.Loops.{Touching}
use Rattle.gap_numbers.proofs.touch.Given as goal

abbrev pub invariant-loop-next : goal.invariant-loop-next
invariant-loop-next l = Touching l.numbers l.start l.end l.first l.next l.low l.high l.left
