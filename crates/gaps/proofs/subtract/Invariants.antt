-- After some gaps what the range leaves of these is in the record made (`Made` of MarkingSteps).
use Rattle.gaps.proofs.MarkingSteps.{Made}
use Rattle.gaps.proofs.subtract.Given as goal

abbrev pub invariant-loop-gap : goal.invariant-loop-gap
invariant-loop-gap l = Made l.fn.given.size l.gap-items l.start l.end l.gap-index l.made
