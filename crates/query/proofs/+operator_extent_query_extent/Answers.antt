-- The two functions that go past a query call each other as its readers do, by the same measures: what each says is a law of Skips.
use native.Mathlib.Omega.{arith}
use Rattle.query.proofs.Depths.{within_depths}
use Rattle.query.proofs.Skips.{told, leaf-spans, join-spans, sides-span}
use Rattle.query.proofs.+operator_extent_query_extent.Goals as goal

pub operator_extent-join_extent-requires-clause-first_bound : goal.operator_extent-join_extent-requires-clause-first_bound
operator_extent-join_extent-requires-clause-first_bound t c =
    let deep = c.requires.left_nonzero in
    let first-depth = within_depths _ _ _ (told c.query_extent-first.ensures c.if-first-eq0.false) in
    omega (arith, deep, first-depth)

pub operator_extent-join_extent-requires-clause-second_bound : goal.operator_extent-join_extent-requires-clause-second_bound
operator_extent-join_extent-requires-clause-second_bound t c =
    let deep = c.requires.left_nonzero in
    let second-depth = within_depths _ _ _ (told c.query_extent-second.ensures c.if-second-eq0.false) in
    omega (arith, deep, second-depth)

pub operator_extent-returns : goal.operator_extent-returns
operator_extent-returns t c =
    let start = c.args in
    sides-span _ start.s.now start.at _ _ (omega (arith, c.if-s-at.false)) (omega arith)
    (told c.query_extent-first.ensures c.if-first-eq0.false)
    (rw c.end_of.ensures at (told c.query_extent-second.ensures c.if-second-eq0.false))
    c.join_extent.ensures

pub query_extent-returns-then-code-eq0 : goal.query_extent-returns-then-code-eq0
query_extent-returns-then-code-eq0 t c =
    let start = c.args in
    join-spans _ c.if-left-eq0.false start.s.now start.at (omega (arith, c.if-s-at.false)) c.if-code-eq0.true c.operator_extent.ensures

pub query_extent-returns : goal.query_extent-returns
query_extent-returns t c =
    let start = c.args in
    leaf-spans _ c.if-left-eq0.false start.s.now start.at (omega (arith, c.if-s-at.false)) c.if-code-eq0.false
    (told c.leaf_end-end.ensures c.if-end-eq0.false) c.extent.ensures
