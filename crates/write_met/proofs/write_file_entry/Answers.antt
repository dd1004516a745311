-- Each answer follows by a law of MetEntries from the lengths that were read.
use native.Mathlib.Omega.{arith}
use Rattle.write_met.specs.MetEntries.{spec_write_file_entry}
use Rattle.write_met.proofs.MetEntries.{entry-missing, entry-overflows, entry-roomless, entry-written, parts-length}
use Rattle.write_met.proofs.write_file_entry.Goals as goal

pub returns-in_err-parts_len : goal.returns-in_err-parts_len
unfolding spec_write_file_entry
returns-in_err-parts_len c = entry-missing _ _ _ _ c.from_residual.ensures.1 c.in_err-parts_len.ensures

pub returns-then-parts-gt-PARTS_MOST : goal.returns-then-parts-gt-PARTS_MOST
returns-then-parts-gt-PARTS_MOST c = entry-overflows c.args.src.now c.type_inv.src c.args.file _ _ c.in_ok-parts_len.ensures _ c.if-parts-gt-PARTS_MOST.true

pub overflow_add-parts_len : goal.overflow_add-parts_len
overflow_add-parts_len c = omega (arith, parts-length c.args.src.now c.type_inv.src c.args.file _ _ c.in_ok-parts_len.ensures, c.if-parts-gt-PARTS_MOST.false)

pub returns-then-out-parts_len : goal.returns-then-out-parts_len
returns-then-out-parts_len c =
    entry-roomless c.args.src.now c.type_inv.src c.args.file _ _ c.in_ok-parts_len.ensures _ c.if-parts-gt-PARTS_MOST.false (omega (arith, c.if-out-parts_len.true))

pub returns-then-out-parts_len-2 : goal.returns-then-out-parts_len-2
returns-then-out-parts_len-2 c =
    entry-roomless c.args.src.now c.type_inv.src c.args.file _ _ c.in_ok-parts_len.ensures _ c.if-parts-gt-PARTS_MOST.false (omega (arith, c.if-out-parts_len-2.true, c.if-out-parts_len.false))

pub returns : goal.returns
returns c =
    entry-written c.args.src.now c.type_inv.src c.args.file _ _ c.in_ok-parts_len.ensures _ c.if-parts-gt-PARTS_MOST.false
    (omega (arith, c.if-out-parts_len-2.false, c.if-out-parts_len.false)) c.put_file_entry.ensures
