-- After i gaps their pairs of tags are written (`PairsWritten` of Pairs).
use Rattle.put_gaps.proofs.Pairs.{PairsWritten}
use Rattle.put_gaps.proofs.put_pairs.Given as goal

abbrev pub invariant-loop-i : goal.invariant-loop-i
invariant-loop-i l = PairsWritten l.gaps l.initial.out l.out l.wrote l.i
