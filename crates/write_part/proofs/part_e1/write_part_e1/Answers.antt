-- Each answer follows by a law of Answers from what was read: `ready`.
use native.Mathlib.Omega.{arith}
use Rattle.write_items.proofs.Answers.{faulty, missing, roomless, written}
use Rattle.write_part.proofs.E1Places.{E1Ready, e1-fits, e1-ready}
use Rattle.write_part.proofs.part_e1.write_part_e1.Goals as goal
use Rattle.write_part.proofs.part_e1.write_part_e1.Goals.{In_ok-tags_len}

ready : (c : In_ok-tags_len) → E1Ready c.args.src.now c.args.file c.in_ok-tags_len.tags_len c.in_ok-tags_len.area
ready c =
    e1-ready c.args.src.now c.type_inv.src c.args.file _ _ c.in_ok-tags_len.ensures (omega (arith, c.well_formed)) (omega (arith, c.well_formed))

pub returns-in_err-tags_len : goal.returns-in_err-tags_len
returns-in_err-tags_len c = missing _ _ c.from_residual.ensures.1 c.in_err-tags_len.ensures

pub returns-in_err-check_e1 : goal.returns-in_err-check_e1
returns-in_err-check_e1 c = faulty (ready (goal.at.returns-in_err-check_e1 c).In_ok-tags_len) _ _ c.from_residual-in_err-check_e1.ensures.1 c.in_err-check_e1.ensures

pub area_size-size-requires : goal.area_size-size-requires
area_size-size-requires c = omega (arith, e1-fits _ _ _ c.in_ok-check_e1.ensures)

pub overflow_add-tags_len : goal.overflow_add-tags_len
overflow_add-tags_len c = omega (arith, e1-fits _ _ _ c.in_ok-check_e1.ensures, c.area_size-size.ensures)

pub overflow_add-tags_len-2 : goal.overflow_add-tags_len-2
overflow_add-tags_len-2 c = omega (arith, e1-fits _ _ _ c.in_ok-check_e1.ensures, c.area_size-size.ensures)

pub returns-then-out-tags_len : goal.returns-then-out-tags_len
returns-then-out-tags_len c =
    roomless (ready (goal.at.returns-then-out-tags_len c).In_ok-tags_len) c.in_ok-check_e1.ensures (rw c.area_size-size.ensures at c.if-out-tags_len.true)

pub returns : goal.returns
returns c =
    written (ready (goal.at.returns c).In_ok-tags_len) c.in_ok-check_e1.ensures (rw c.area_size-size.ensures at c.if-out-tags_len.false) c.put_part_e1.ensures
