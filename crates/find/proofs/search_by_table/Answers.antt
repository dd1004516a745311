-- The loop is as Searching says. By the measure it ends within 9 turns for each byte of the text, and one.
use mathlib.Core.Path.{sym}
use native.Mathlib.Omega.{arith}
use Rattle.find.proofs.Moving.{search-moved, search-found, passed-all}
use Rattle.find.proofs.search_by_table.Goals as goal

pub returns-then-matched-part : goal.returns-then-matched-part
returns-then-matched-part c = sym (search-found _ _ _ _ c.loop-start.invariant c.if-matched-part.true (omega arith))

pub loop-start-preserved : goal.loop-start-preserved
loop-start-preserved c =
    let l = c.loop-start in
    search-moved _ _ _ _ l.invariant (omega arith) c.if-part-matched.false _ _ c.after_mismatch-next.ensures

pub returns : goal.returns
returns c = let l = c.loop-start in sym (passed-all _ _ l.start (omega arith) l.invariant.passed)
