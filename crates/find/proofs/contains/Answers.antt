use mathlib.Core.Path.{sym}
use Rattle.find.proofs.Offsets.{occurs-empty, occurs-longer}
use Rattle.find.proofs.contains.Goals as goal

pub returns-then-part-eq0 : goal.returns-then-part-eq0
returns-then-part-eq0 c = sym (occurs-empty _ _ c.if-part-eq0.true)

pub returns-then-text-part : goal.returns-then-text-part
returns-then-text-part c = sym (occurs-longer _ _ c.if-text-part.true)
