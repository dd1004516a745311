-- After i gaps their pairs of tags are written (`PairsWritten` of Pairs).
use Rattle.put_gaps.proofs.Pairs.{pairs-all, pair-room, pair-ordered, pairs_next}
use lib.ListN.{length-drop, length-take}
use native.Mathlib.Omega.{arith}
use Rattle.put_gaps.proofs.put_pairs.Goals as goal

pub put_pair-wrote-requires : goal.put_pair-wrote-requires
put_pair-wrote-requires c =
    let h = c.loop-i-test.true in
    let room = pair-room c.args.gaps.now c.args.out.now c.requires.1 _ _ _ h c.loop-i.invariant in
    let o = pair-ordered c.args.gaps.now c.args.out.now c.requires.1 _ _ _ h c.loop-i.invariant in
    let lawful = c.requires.0.1 in (
      omega (arith, lawful.0),
      omega (arith, o.0, o.1, lawful.1.fits),
      omega (arith, o.0, o.1, lawful.1.fits),
      simp (length-take, length-drop) (omega (arith, room)),
    )

pub loop-i-preserved : goal.loop-i-preserved
loop-i-preserved c =
    let h = c.loop-i-test.true in
    pairs_next c.args.gaps.now c.args.out.now c.requires.1 _ _ _ h c.loop-i.invariant _ c.put_pair-wrote.ensures.written _ c.put_pair-wrote.ensures.output

pub returns-clause-written : goal.returns-clause-written
returns-clause-written c = (pairs-all _ _ _ _ _ c.loop-i.invariant c.loop-i-test.false).0

pub returns-clause-output : goal.returns-clause-output
returns-clause-output c = (pairs-all _ _ _ _ _ c.loop-i.invariant c.loop-i-test.false).1
