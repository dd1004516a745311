-- Each answer follows by a law of Answers or Joins from the sides that were read: `ready`.
use Prim.Native.Nat.{◌+◌, max, suc}
use native.Mathlib.Omega.{arith}
use lib.ListN.{length}
use Rattle.wire.proofs.Replies.{slice-bytes}
use Rattle.query.specs.QueryAnswers.{operator_of, query_in}
use Rattle.write_items.specs.Numbers.{spec_join_number}
use Rattle.write_items.proofs.Answers.{faulty, roomless, written}
use Rattle.write_items.proofs.Joins.{JoinReady, Side, join-fits, join-ready, left-refused, right-refused, side}
use Rattle.write_items.proofs.queries.write_join.Goals as goal
use Rattle.write_items.proofs.queries.write_join.Goals.{In_ok-left_query, In_ok-right_query}

left_side : (c : In_ok-left_query) → Side c.args.left.now (query_in c.args.left.now c.in_ok-left_query.left_query) c.in_ok-left_query.left_query.depth
left_side c =
    side c.args.left.now c.type_inv.left c.in_ok-left_query.left_query c.in_ok-left_query.ensures.meaning c.in_ok-left_query.ensures.placed

ready : (c : In_ok-right_query) → let a = c.args in
    JoinReady (operator_of a.operator) a.left.now a.right.now
    (spec_join_number (2 + length a.left.now + length a.right.now) (suc (max c.in_ok-left_query.left_query.depth c.in_ok-right_query.right_query.depth)))
ready c =
    let a = c.args in
    join-ready (operator_of a.operator) a.left.now a.right.now (slice-bytes _ c.type_inv.left) (slice-bytes _ c.type_inv.right)
    (side a.left.now c.type_inv.left c.in_ok-left_query.left_query c.in_ok-left_query.ensures.meaning c.in_ok-left_query.ensures.placed)
    (side a.right.now c.type_inv.right c.in_ok-right_query.right_query c.in_ok-right_query.ensures.meaning c.in_ok-right_query.ensures.placed)

pub returns-in_err-left_query : goal.returns-in_err-left_query
returns-in_err-left_query c =
    let a = c.args in
    left-refused (operator_of a.operator) a.left.now a.right.now _ _ c.from_residual.ensures.1 c.in_err-left_query.ensures.meaning

pub returns-in_err-right_query : goal.returns-in_err-right_query
returns-in_err-right_query c =
    let a = c.args in
    right-refused (operator_of a.operator) a.left.now a.right.now _ _ c.from_residual-in_err-right_query.ensures.1 (left_side (goal.at.returns-in_err-right_query c).In_ok-left_query) c.in_err-right_query.ensures.meaning

pub returns-in_err-check_join : goal.returns-in_err-check_join
returns-in_err-check_join c = faulty (ready (goal.at.returns-in_err-check_join c).In_ok-right_query) _ _ c.from_residual-in_err-check_join.ensures.1 c.in_err-check_join.ensures

pub overflow_add-left-2 : goal.overflow_add-left-2
overflow_add-left-2 c = record { fits = omega (arith, join-fits (2 + length c.args.left.now + length c.args.right.now) _ c.in_ok-check_join.ensures) }

pub returns-then-out-left : goal.returns-then-out-left
returns-then-out-left c = roomless (ready (goal.at.returns-then-out-left c).In_ok-right_query) c.in_ok-check_join.ensures c.if-out-left.true

pub returns : goal.returns
returns c =
    written (ready (goal.at.returns c).In_ok-right_query) c.in_ok-check_join.ensures c.if-out-left.false c.put_join.ensures
