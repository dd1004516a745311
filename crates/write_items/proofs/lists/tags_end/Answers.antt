-- The end of the tags, without what they are.
use Rattle.wire.proofs.Steps.{propagated}
use Rattle.write_items.proofs.There.{ends-got, ends-refused}
use Rattle.write_items.proofs.lists.tags_end.Goals as goal

pub returns-in_err-next : goal.returns-in_err-next
returns-in_err-next c = rw (propagated _ c.from_residual.ensures.1) (ends-refused c.in_err-next.ensures.meaning)

pub returns : goal.returns
returns c = ends-got c.in_ok-next.ensures.meaning
