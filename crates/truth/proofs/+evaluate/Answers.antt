-- The truth of a node is its leaf's, or is made of those of its two sides (the laws `truth_join` and `truth_settled` of Joins).
use mathlib.Core.Path.{refl, sym, ◌∙◌}
use Rattle.format.specs.Order.{decode_query_in}
use Rattle.format.specs.Truth.{holds}
use Rattle.wire.proofs.Steps.{propagated}
use Rattle.query.specs.QueryAnswers.{operator_of}
use Rattle.query.proofs.Nodes.{query-left}
use Rattle.truth.specs.TruthAnswers.{tag_meets, truths}
use Rattle.truth.proofs.Joins.{truth_join, truth_settled}
use Rattle.truth.proofs.+evaluate.Goals as goal

pub returns-then-left-eq0 : goal.returns-then-left-eq0
unfolding truths decode_query_in
returns-then-left-eq0 t c = rw c.if-left-eq0.true refl

pub returns-in_err-node : goal.returns-in_err-node
unfolding truths
returns-in_err-node t c = rw ((propagated _ c.from_residual.ensures.1), query-left _ c.if-left-eq0.false, ← c.in_err-node.ensures.result_value) refl

pub returns-in_err-first-in-Join : goal.returns-in_err-first-in-Join
returns-in_err-first-in-Join t c =
    rw ((propagated _ c.from_residual-in_err-first-in-Join.ensures.1), query-left _ c.if-left-eq0.false, ← c.in_ok-node.ensures.result_value, c.in-Join.is)
    (rw (truth_join, ← c.in_err-first-in-Join.ensures) refl)

pub returns-then-end-ne0 : goal.returns-then-end-ne0
returns-then-end-ne0 t c =
    let decides = sym c.if-is_settled.true ∙ c.is_settled.ensures in
    rw (query-left _ c.if-left-eq0.false, ← c.in_ok-node.ensures.result_value, c.in-Join.is)
    (rw (truth_join, ← c.in_ok-first-in-Join.ensures) (truth_settled _ (operator_of c.in-Join.operator) _ _ _ decides c.query_end-end.ensures c.if-end-ne0.true))

pub returns-in_err-second-in-Join : goal.returns-in_err-second-in-Join
returns-in_err-second-in-Join t c =
    rw ((propagated _ c.from_residual-in_err-second-in-Join.ensures.1), query-left _ c.if-left-eq0.false, ← c.in_ok-node.ensures.result_value, c.in-Join.is)
    (rw (truth_join, ← c.in_ok-first-in-Join.ensures, ← c.in_err-second-in-Join.ensures) refl)

pub returns-in_ok-second-in-Join : goal.returns-in_ok-second-in-Join
returns-in_ok-second-in-Join t c =
    rw (c.combine.ensures, query-left _ c.if-left-eq0.false, ← c.in_ok-node.ensures.result_value, c.in-Join.is)
    (rw (truth_join, ← c.in_ok-first-in-Join.ensures, ← c.in_ok-second-in-Join.ensures) refl)

pub returns-in-Keyword : goal.returns-in-Keyword
unfolding truths holds tag_meets
returns-in-Keyword t c =
    rw (c.leaf_holds.ensures, query-left _ c.if-left-eq0.false, ← c.in_ok-node.ensures.result_value, c.in-Keyword.is) refl

pub returns-in-Field : goal.returns-in-Field
unfolding truths holds tag_meets
returns-in-Field t c =
    rw (c.leaf_holds-in-Field.ensures, query-left _ c.if-left-eq0.false, ← c.in_ok-node.ensures.result_value, c.in-Field.is) refl

pub returns-in-Limit : goal.returns-in-Limit
unfolding truths holds tag_meets
returns-in-Limit t c =
    rw (c.leaf_holds-in-Limit.ensures, query-left _ c.if-left-eq0.false, ← c.in_ok-node.ensures.result_value, c.in-Limit.is) refl
