-- After i tags the tags that stay and their bytes are counted (`Measured` of Kept).
use Rattle.put_gaps.proofs.Kept.{Measured}
use Rattle.put_gaps.proofs.measure_plain.Given as goal

abbrev pub invariant-loop : goal.invariant-loop
invariant-loop l = Measured l.s l.total l.initial.next.at l.count l.bytes l.counter l.next.at
