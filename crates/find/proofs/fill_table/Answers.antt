-- The loop is as Filling says. By the measure it ends within 10 turns for each byte of the part.
use native.Mathlib.Omega.{arith}
use lib.ListN.{length-set}
use Rattle.find.proofs.Filling.{fill-entry, fill-moved}
use Rattle.find.proofs.fill_table.Goals as goal

pub loop-sample-preserved-then-start-matched : goal.loop-sample-preserved-then-start-matched
loop-sample-preserved-then-start-matched c =
    let l = c.loop-sample in
    let part = c.args.part.now in
    (fill-entry part l.table l.start l.matched l.sample l.invariant.0 c.if-start-matched.true (omega arith) (omega arith), simp length-set l.invariant.1)

pub loop-sample-preserved : goal.loop-sample-preserved
loop-sample-preserved c =
    let inv = c.loop-sample.invariant in
    (fill-moved _ _ _ _ _ inv.0 c.if-start-matched.false c.if-part-matched.false _ _ c.after_mismatch-next.ensures, inv.1)
