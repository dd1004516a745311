-- After i gaps the numbers of these are put (`PairsWritten` of Records).
use native.Mathlib.Omega.{arith}
use lib.ListN.{length-drop, length-take}
use Rattle.gap_numbers.proofs.Records.{pairs-all, pair-room, pairs_next}
use Rattle.gap_numbers.proofs.put_pairs.Goals as goal

pub put_pair-requires : goal.put_pair-requires
put_pair-requires c =
    let r = pair-room c.requires c.loop-i.invariant c.loop-i-test.true in
    simp (length-take, length-drop) (omega (arith, r))

pub loop-i-preserved : goal.loop-i-preserved
loop-i-preserved c = pairs_next c.requires c.loop-i.invariant c.loop-i-test.true c.put_pair.ensures

pub returns : goal.returns
returns c = pairs-all c.requires c.loop-i.invariant c.loop-i-test.false
