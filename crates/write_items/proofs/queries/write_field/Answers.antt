-- Each answer follows by a law of Answers from what is known of the pieces: `field-ready`.
use native.Mathlib.Omega.{arith}
use lib.ListN.{length}
use Rattle.wire.proofs.Replies.{slice-bytes}
use Rattle.write_items.proofs.Answers.{faulty, roomless, written}
use Rattle.write_items.proofs.Pieces.{field_fits}
use Rattle.write_items.proofs.Leaves.{field-ready}
use Rattle.write_items.proofs.queries.write_field.Goals as goal

pub returns-in_err-check_field : goal.returns-in_err-check_field
returns-in_err-check_field c =
    let a = c.args in
    faulty (field-ready a.text.now a.name.now (slice-bytes _ c.type_inv.text) (slice-bytes _ c.type_inv.name)) _ _ c.from_residual.ensures.1 c.in_err-check_field.ensures

pub overflow_add-text-2 : goal.overflow_add-text-2
overflow_add-text-2 c = let fit = field_fits (length c.args.text.now) (length c.args.name.now) c.in_ok-check_field.ensures in record { fits = omega (arith, fit.1.1) }

pub returns-then-out-text : goal.returns-then-out-text
returns-then-out-text c =
    let a = c.args in
    roomless (field-ready a.text.now a.name.now (slice-bytes _ c.type_inv.text) (slice-bytes _ c.type_inv.name)) c.in_ok-check_field.ensures c.if-out-text.true

pub put_field-requires : goal.put_field-requires
put_field-requires c = let fit = field_fits (length c.args.text.now) (length c.args.name.now) c.in_ok-check_field.ensures in (fit.0, fit.1.0, c.if-out-text.false)

pub returns : goal.returns
returns c =
    let a = c.args in
    written (field-ready a.text.now a.name.now (slice-bytes _ c.type_inv.text) (slice-bytes _ c.type_inv.name)) c.in_ok-check_field.ensures c.if-out-text.false c.put_field.ensures
