-- A refusal: the record is the one that was given, by the law of refused markings.
use Rattle.gaps.proofs.Marking.{handed-back}
use Rattle.gaps.proofs.mark_in_place.Goals as goal

pub returns-in-Err : goal.returns-in-Err
returns-in-Err c = handed-back _ _ _ _ _ c.in-Err.ensures
