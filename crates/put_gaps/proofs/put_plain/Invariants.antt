-- After i tags those of them that stay are written (`Copied` of Kept).
use Rattle.put_gaps.proofs.Kept.{Copied}
use Rattle.put_gaps.proofs.put_plain.Given as goal

abbrev pub invariant-loop : goal.invariant-loop
invariant-loop l = Copied l.s l.total l.initial.next.at l.initial.out l.out l.wrote l.counter l.next.at
