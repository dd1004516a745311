-- Each answer follows by a law of Answers from the length of the entries and the tail, once they are known: `ready`.
use mathlib.Core.Path.{◌≡◌}
use native.Mathlib.Omega.{arith}
use lib.ListN.{length}
use Rattle.format.specs.Decoding.{bytes_at}
use Rattle.write_items.proofs.There.{ends-refused, first-missing, then-there}
use Rattle.write_items.proofs.Listed.{run-few}
use Rattle.write_items.proofs.Answers.{faulty, missing-promised, roomless, written}
use Rattle.write_met.proofs.Known.{opening-fits}
use Rattle.write_met.proofs.Servers.{ServerReady, part-sizes, server-ready}
use Rattle.write_met.proofs.write_server_met.Goals as goal
use Rattle.write_met.proofs.write_server_met.Goals.{In_ok-run}

ready : (c : In_ok-run) → ServerReady c.args.src.now c.args.server c.in_ok-size.size
ready c =
    server-ready c.args.src.now c.type_inv.src c.args.server c.in_ok-size.size c.in_ok-size.ensures c.in_ok-run.ensures.result_value
    (omega (arith, c.well_formed)) (omega (arith, c.well_formed))

sizes : (c : In_ok-run) → let s = c.args.src.now in let m = c.args.server in
    (length (bytes_at s m.entries.at c.in_ok-size.size) ≡ c.in_ok-size.size) × (length (bytes_at s m.tail.at m.tail.len) ≡ m.tail.len)
sizes c = part-sizes c.args.src.now c.type_inv.src c.args.server c.in_ok-size.size c.in_ok-size.ensures c.in_ok-run.ensures.result_value

pub returns-in_err-size : goal.returns-in_err-size
returns-in_err-size c = missing-promised _ _ c.from_residual.ensures.1 (first-missing _ c.in_err-size.ensures)

pub returns-in_err-run : goal.returns-in_err-run
returns-in_err-run c = missing-promised _ _ c.from_residual-in_err-run.ensures.1 (then-there c.in_ok-size.ensures (ends-refused c.in_err-run.ensures.result_value))

pub returns-in_err-check_opening : goal.returns-in_err-check_opening
returns-in_err-check_opening c = faulty (ready (goal.at.returns-in_err-check_opening c).In_ok-run) _ _ c.from_residual-in_err-check_opening.ensures.1 c.in_err-check_opening.ensures

pub overflow_add-rest : goal.overflow_add-rest
overflow_add-rest c =
    let s = c.args.src.now in
    let m = c.args.server in
    let lengths = sizes (goal.at.overflow_add-rest c).In_ok-run in
    omega (arith, lengths.0, lengths.1, run-few s m.entries.at c.in_ok-size.size, run-few s m.tail.at m.tail.len)

pub overflow_add-rest-2 : goal.overflow_add-rest-2
overflow_add-rest-2 c = omega (arith, opening-fits _ _ c.in_ok-check_opening.ensures)

pub returns-then-out-rest : goal.returns-then-out-rest
returns-then-out-rest c = roomless (ready (goal.at.returns-then-out-rest c).In_ok-run) c.in_ok-check_opening.ensures c.if-out-rest.true

pub returns : goal.returns
returns c =
    let lengths = sizes (goal.at.returns c).In_ok-run in
    written (ready (goal.at.returns c).In_ok-run) c.in_ok-check_opening.ensures c.if-out-rest.false
    (rw (c.bytes_at-items.ensures, c.bytes_at-tail_bytes.ensures, lengths.0, lengths.1) at c.put_server_met.ensures)
