-- Each answer follows by a law of Answers from the length of the entries, once it is known: `ready`.
use Prim.Native.Nat.{◌+◌}
use native.Mathlib.Omega.{arith}
use Rattle.write_items.proofs.Answers.{faulty, missing-promised, roomless, written}
use Rattle.write_met.proofs.Known.{KnownReady, known-ready, opening-fits, part-size}
use Rattle.write_met.proofs.write_known_met.Goals as goal
use Rattle.write_met.proofs.write_known_met.Goals.{In_ok-size}

ready : (c : In_ok-size) → KnownReady c.args.src.now c.args.known c.in_ok-size.size
ready c =
    known-ready c.args.src.now c.type_inv.src c.args.known c.in_ok-size.size c.in_ok-size.ensures (omega (arith, c.well_formed)) (omega (arith, c.well_formed))

pub returns-in_err-size : goal.returns-in_err-size
returns-in_err-size c = missing-promised _ _ c.from_residual.ensures.1 c.in_err-size.ensures

pub returns-in_err-check_opening : goal.returns-in_err-check_opening
returns-in_err-check_opening c = faulty (ready (goal.at.returns-in_err-check_opening c).In_ok-size) _ _ c.from_residual-in_err-check_opening.ensures.1 c.in_err-check_opening.ensures

pub overflow_add-size : goal.overflow_add-size
overflow_add-size c = omega (arith, opening-fits c.args.known.opening (5 + c.in_ok-size.size) c.in_ok-check_opening.ensures)

pub returns-then-out-size : goal.returns-then-out-size
returns-then-out-size c = roomless (ready (goal.at.returns-then-out-size c).In_ok-size) c.in_ok-check_opening.ensures c.if-out-size.true

pub returns : goal.returns
returns c =
    let a = c.args in
    written (ready (goal.at.returns c).In_ok-size) c.in_ok-check_opening.ensures c.if-out-size.false
    (rw (c.bytes_at-items.ensures, part-size a.src.now c.type_inv.src a.known _ c.in_ok-size.ensures) at c.put_entries.ensures)
