-- What each of the two answers, by what the comparison says (laws of Saves).
use Rattle.save.proofs.Saves.{equal-files, other-files, over-opened}
use Rattle.save.proofs.save.Goals as goal

pub returns-then-same : goal.returns-then-same
returns-then-same c =
    let equal = equal-files _ _ _ c.same.ensures c.if-same.true in
    over-opened _ _ _ _ _ equal c.save_strict.ensures

pub save_over_another-requires : goal.save_over_another-requires
save_over_another-requires c = other-files _ _ _ c.same.ensures c.if-same.false
