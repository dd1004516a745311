-- Each answer follows by a law of Answers from the lengths that were read: `ready`.
use native.Mathlib.Omega.{arith}
use Rattle.write_items.proofs.Answers.{faulty, missing, roomless, written}
use Rattle.write_part.proofs.E0.{E0Ready, e0-fits, e0-ready}
use Rattle.write_part.proofs.part_e0.write_part_e0.Goals as goal
use Rattle.write_part.proofs.part_e0.write_part_e0.Goals.{In_ok-parts_len}

ready : (c : In_ok-parts_len) → E0Ready c.args.src.now c.args.file c.in_ok-parts_len.parts_len c.in_ok-parts_len.tags_len
ready c =
    e0-ready c.args.src.now c.type_inv.src c.args.file _ _ c.in_ok-parts_len.ensures (omega (arith, c.well_formed)) (omega (arith, c.well_formed))

pub returns-in_err-parts_len : goal.returns-in_err-parts_len
returns-in_err-parts_len c = missing _ _ c.from_residual.ensures.1 c.in_err-parts_len.ensures

pub returns-in_err-check_e0 : goal.returns-in_err-check_e0
returns-in_err-check_e0 c = faulty (ready (goal.at.returns-in_err-check_e0 c).In_ok-parts_len) _ _ c.from_residual-in_err-check_e0.ensures.1 c.in_err-check_e0.ensures

pub overflow_add-parts_len : goal.overflow_add-parts_len
overflow_add-parts_len c = omega (arith, (e0-fits _ _ _ c.in_ok-check_e0.ensures).1)

pub overflow_add-parts_len-2 : goal.overflow_add-parts_len-2
overflow_add-parts_len-2 c = omega (arith, (e0-fits _ _ _ c.in_ok-check_e0.ensures).1)

pub returns-then-out-parts_len : goal.returns-then-out-parts_len
returns-then-out-parts_len c = roomless (ready (goal.at.returns-then-out-parts_len c).In_ok-parts_len) c.in_ok-check_e0.ensures c.if-out-parts_len.true

pub put_part_e0-requires : goal.put_part_e0-requires
put_part_e0-requires c = (c.in_ok-parts_len.ensures, (e0-fits _ _ _ c.in_ok-check_e0.ensures).0, c.if-out-parts_len.false)

pub returns : goal.returns
returns c = written (ready (goal.at.returns c).In_ok-parts_len) c.in_ok-check_e0.ensures c.if-out-parts_len.false c.put_part_e0.ensures
