-- Each answer follows by a law of Answers from what is known of the pieces: `limit-ready`.
use native.Mathlib.Omega.{arith}
use lib.ListN.{length}
use Rattle.wire.proofs.Replies.{slice-bytes}
use Rattle.query.specs.QueryAnswers.{bound_of}
use Rattle.write_items.proofs.Answers.{faulty, roomless, written}
use Rattle.write_items.proofs.Pieces.{limit-fits}
use Rattle.write_items.proofs.Leaves.{limit-ready}
use Rattle.write_items.proofs.queries.write_limit.Goals as goal

pub returns-in_err-check_limit : goal.returns-in_err-check_limit
returns-in_err-check_limit c =
    let a = c.args in
    faulty (limit-ready a.value (bound_of a.bound) a.name.now (omega (arith, c.well_formed)) (slice-bytes _ c.type_inv.name)) _ _ c.from_residual.ensures.1 c.in_err-check_limit.ensures

pub returns-then-out-name : goal.returns-then-out-name
returns-then-out-name c =
    let a = c.args in
    roomless (limit-ready a.value (bound_of a.bound) a.name.now (omega (arith, c.well_formed)) (slice-bytes _ c.type_inv.name)) c.in_ok-check_limit.ensures c.if-out-name.true

pub put_limit-requires : goal.put_limit-requires
put_limit-requires c = let fit = limit-fits (length c.args.name.now) c.in_ok-check_limit.ensures in (fit.0, c.if-out-name.false)

pub returns : goal.returns
returns c =
    let a = c.args in
    written (limit-ready a.value (bound_of a.bound) a.name.now (omega (arith, c.well_formed)) (slice-bytes _ c.type_inv.name)) c.in_ok-check_limit.ensures c.if-out-name.false c.put_limit.ensures
