-- The text is a run of bytes; its size and whether its count field holds it follow by the laws of Extents.
use Rattle.write_items.proofs.There.{is-there}
use Rattle.check_bodies.proofs.Extents.{absent-extends, text-extends, text-long}
use Rattle.check_bodies.proofs.Places.{got-ends}
use Rattle.check_bodies.proofs.text_extent.Goals as goal

pub returns-in_err-run : goal.returns-in_err-run
returns-in_err-run c = absent-extends _ _ c.from_residual.ensures.1 c.in_err-run.ensures.result_value

pub returns-then-len-gt-WORD_MOST : goal.returns-then-len-gt-WORD_MOST
returns-then-len-gt-WORD_MOST c = text-long _ _ (is-there (got-ends c.in_ok-run.ensures.result_value)) c.if-len-gt-WORD_MOST.true

pub returns : goal.returns
returns c = text-extends _ _ (is-there (got-ends c.in_ok-run.ensures.result_value)) c.if-len-gt-WORD_MOST.false
