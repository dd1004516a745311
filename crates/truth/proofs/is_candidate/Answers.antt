-- The length of the name first, then the byte of a name of one byte, then the type: most tags are told apart by their names.
use mathlib.Core.Path.{◌∙◌, sym}
use native.Mathlib.Omega.{arith}
use Rattle.tags.proofs.WholeTags.{head-lies, name-lies}
use Rattle.truth.proofs.Candidates.{by-prefix, by-type, other_byte, other_length, other-type}
use Rattle.truth.proofs.is_candidate.Goals as goal

pub overflow_add-at : goal.overflow_add-at
overflow_add-at c = omega (arith, head-lies _ _ c.requires)

pub bounds-tags-at : goal.bounds-tags-at
bounds-tags-at c = omega (arith, head-lies _ _ c.requires)

pub overflow_add-at-2 : goal.overflow_add-at-2
overflow_add-at-2 c = omega (arith, head-lies _ _ c.requires)

pub bounds-tags-at-2 : goal.bounds-tags-at-2
bounds-tags-at-2 c = omega (arith, head-lies _ _ c.requires)

pub returns-then-name_length-name : goal.returns-then-name_length-name
returns-then-name_length-name c = other_length _ _ _ c.pair-name_length.ensures c.requires _ _ c.if-name_length-name.true

pub bounds-tags-at-then-name_length-eq1 : goal.bounds-tags-at-then-name_length-eq1
bounds-tags-at-then-name_length-eq1 c = omega (arith, name-lies _ _ _ c.pair-name_length.ensures c.requires, c.if-name_length-eq1.true)

pub returns-then-tags-at : goal.returns-then-tags-at
returns-then-tags-at c = other_byte _ _ _ c.pair-name_length.ensures c.requires _ _ c.if-name_length-eq1.true (sym c.if-name_length-name.false ∙ c.if-name_length-eq1.true) c.if-tags-at.true

pub returns-then-name_length-eq1 : goal.returns-then-name_length-eq1
returns-then-name_length-eq1 c = by-type _ _ _ c.pair-name_length.ensures c.requires _ _ c.if-name_length-eq1.true (sym c.if-name_length-name.false ∙ c.if-name_length-eq1.true) c.if-tags-at.false

pub bounds-tags-at-3 : goal.bounds-tags-at-3
bounds-tags-at-3 c = omega (arith, head-lies _ _ c.requires)

pub returns-then-tags-at-2 : goal.returns-then-tags-at-2
returns-then-tags-at-2 c = other-type _ _ _ c.pair-name_length.ensures c.requires _ _ c.if-tags-at-2.true

pub overflow_add-at-3 : goal.overflow_add-at-3
overflow_add-at-3 c = omega (arith, head-lies _ _ c.requires)

pub returns : goal.returns
returns c =
    rw c.bytes_at.ensures at c.starts_with.ensures
    ∙ by-prefix _ _ _ c.pair-name_length.ensures c.requires _ _ c.if-tags-at-2.false c.if-name_length-name.false
