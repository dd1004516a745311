-- The part stands at no offset before `start`.
use mathlib.Core.Path.{sym}
use native.Mathlib.Omega.{arith}
use Rattle.find.proofs.Offsets.{occurs-at}
use Rattle.find.proofs.Moving.{passed-all, passed-block}
use Rattle.find.proofs.search_blocks.Goals as goal

pub returns-then-search_block : goal.returns-then-search_block
returns-then-search_block c =
    let it = c.search_block.ensures.yes c.if-search_block.true in
    sym (occurs-at _ _ it.offset (omega (arith, c.min-from.ensures, it.high)) it.agrees)

pub loop-start-preserved : goal.loop-start-preserved
loop-start-preserved c =
    let a = c.args in
    let e = c.min-from.ensures in
    (omega (arith, e), passed-block a.part.now a.text.now c.min-from.result _ c.loop-start.start (omega (arith, e)) c.loop-start.invariant.1 (c.search_block.ensures.no c.if-search_block.false))

pub returns : goal.returns
returns c = let l = c.loop-start in sym (passed-all _ _ l.start (omega arith) l.invariant.1)
