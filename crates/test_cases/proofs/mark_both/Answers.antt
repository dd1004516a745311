-- The last answers are equal by the theorem of the order (proofs/Orders).
use Rattle.test_cases.proofs.Orders.{marked-both}
use Rattle.test_cases.proofs.mark_both.Goals as goal

pub returns : goal.returns
returns c =
    marked-both _ _ _ _ _ c.mark-first.result c.mark-one.result c.mark-second.result c.mark-other.result
    c.mark-first.ensures c.record_after.ensures c.mark-one.ensures
    c.mark-second.ensures c.record_after-2.ensures c.mark-other.ensures
