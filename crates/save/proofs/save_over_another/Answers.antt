-- The new bytes' own number, or the merge (laws of Saves).
use mathlib.Core.Path.{refl}
use Rattle.wire.proofs.Steps.{propagated}
use Rattle.output.proofs.Refusals.{number-of-rule}
use Rattle.save.proofs.Saves.{own-accepted, own-refused}
use Rattle.save.proofs.save_over_another.Goals as goal

pub returns-in_err-new_read : goal.returns-in_err-new_read
returns-in_err-new_read c =
    let read = c.in_err-new_read.ensures in
    rw ((propagated _ c.from_residual.ensures.1), number-of-rule)
    (own-refused _ _ _ _ c.read_part-new_read.new.starts c.requires _ (read.meaning, (read.placed, (read.sized, read.exact))) _ refl)

pub returns : goal.returns
returns c =
    let read = c.in_ok-new_read.ensures in
    own-accepted _ _ _ _ _ c.requires _ (read.meaning, (read.placed, (read.sized, read.exact))) _ _ refl _ c.merge_with_reads.ensures
