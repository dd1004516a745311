use Rattle.merge.proofs.Choosing.{comparable}
use Rattle.merge.proofs.is_same_form.Goals as goal

pub same_form-requires : goal.same_form-requires
same_form-requires c = let e = c.requires in comparable c.args.one c.args.other e.0 e.1 e.2
