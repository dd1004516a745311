-- No tag before the offset is one that the leaf looks for, whatever the test tells of.
use Rattle.truth.proofs.Found.{Looked}
use Rattle.truth.proofs.some_tag.Given as goal

abbrev pub invariant-loop : goal.invariant-loop
invariant-loop g l = Looked l.tags (goal.F-post g l.meets) l.fn.list.count l.fn.list.at l.counter l.at
