use native.Mathlib.Omega.{arith}
use Rattle.tags.proofs.WholeTags.{head-lies, name-lies}
use Rattle.truth.proofs.value_at.Goals as goal

pub overflow_add-at : goal.overflow_add-at
overflow_add-at c = omega (arith, head-lies _ _ c.requires)

pub bounds-tags-at : goal.bounds-tags-at
bounds-tags-at c = omega (arith, head-lies _ _ c.requires)

pub overflow_add-at-2 : goal.overflow_add-at-2
overflow_add-at-2 c = omega (arith, head-lies _ _ c.requires)

pub bounds-tags-at-2 : goal.bounds-tags-at-2
bounds-tags-at-2 c = omega (arith, head-lies _ _ c.requires)

pub overflow_add-name : goal.overflow_add-name
overflow_add-name c = omega (arith, head-lies _ _ c.requires)

pub overflow_add-result : goal.overflow_add-result
overflow_add-result c = omega (arith, name-lies _ _ _ c.pair-name_length.ensures c.requires)
