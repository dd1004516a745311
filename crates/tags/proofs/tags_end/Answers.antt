-- Each turn passes one tag whose end the tests tell: the laws of Loops.
use mathlib.Core.Logic.{inr}
use Rattle.format.specs.Order.{decode_tag}
use Rattle.wire.proofs.Loops.{finishes, goes_over}
use Rattle.tags.proofs.Skips.{told}
use Rattle.tags.proofs.tags_end.Goals as goal

pub loop-preserved : goal.loop-preserved
loop-preserved c = search (goes_over decode_tag, told)

pub returns : goal.returns
returns c = inr (finishes decode_tag _ _ _ _ _ c.loop-test.false c.loop.invariant).1.0
