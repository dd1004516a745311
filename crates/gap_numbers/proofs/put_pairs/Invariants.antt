-- After i gaps the numbers of these are put (`PairsWritten` of Records).
use Rattle.gap_numbers.proofs.Records.{PairsWritten}
use Rattle.gap_numbers.proofs.put_pairs.Given as goal

abbrev pub invariant-loop-i : goal.invariant-loop-i
invariant-loop-i l = PairsWritten l.given l.initial.out l.out l.i
