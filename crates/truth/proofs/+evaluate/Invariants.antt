-- A query calls for its two sides with one depth less: the measure is the depth that is left.
use Rattle.truth.proofs.+evaluate.Given as goal

abbrev pub decreases-evaluate : goal.decreases-evaluate
decreases-evaluate l = l.left
