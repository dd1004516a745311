-- The head of a tag that lies there does too.
use native.Mathlib.Omega.{arith}
use Rattle.tags.proofs.WholeTags.{head-lies}
use Rattle.tags.proofs.whole_tag_end.Goals as goal

pub overflow_add-at : goal.overflow_add-at
overflow_add-at c = omega (arith, head-lies _ _ c.requires)

pub bounds-s-at : goal.bounds-s-at
bounds-s-at c = omega (arith, head-lies _ _ c.requires)

pub overflow_add-at-2 : goal.overflow_add-at-2
overflow_add-at-2 c = omega (arith, head-lies _ _ c.requires)

pub bounds-s-at-2 : goal.bounds-s-at-2
bounds-s-at-2 c = omega (arith, head-lies _ _ c.requires)
