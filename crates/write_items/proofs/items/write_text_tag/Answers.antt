-- Each answer follows by a law of Answers from what is known of the texts: `text-ready`.
use native.Mathlib.Omega.{arith}
use lib.ListN.{length}
use Rattle.wire.proofs.Replies.{slice-bytes}
use Rattle.write_items.proofs.Answers.{faulty, roomless, written}
use Rattle.write_items.proofs.Pieces.{tag_fits}
use Rattle.write_items.proofs.Item.{text-ready}
use Rattle.write_items.proofs.items.write_text_tag.Goals as goal

pub returns-in_err-check_tag : goal.returns-in_err-check_tag
returns-in_err-check_tag c =
    let a = c.args in
    faulty (text-ready a.name.now (slice-bytes _ c.type_inv.name) a.text.now (slice-bytes _ c.type_inv.text)) _ _ c.from_residual.ensures.1 c.in_err-check_tag.ensures

pub overflow_add-name-2 : goal.overflow_add-name-2
overflow_add-name-2 c = let fit = tag_fits (length c.args.name.now) (length c.args.text.now) c.in_ok-check_tag.ensures in record { fits = omega (arith, fit.0, fit.1) }

pub returns-then-out-name : goal.returns-then-out-name
returns-then-out-name c =
    let a = c.args in
    roomless (text-ready a.name.now (slice-bytes _ c.type_inv.name) a.text.now (slice-bytes _ c.type_inv.text)) c.in_ok-check_tag.ensures c.if-out-name.true

pub put_text_tag-requires : goal.put_text_tag-requires
put_text_tag-requires c = let fit = tag_fits (length c.args.name.now) (length c.args.text.now) c.in_ok-check_tag.ensures in (fit.0, fit.1, c.if-out-name.false)

pub returns : goal.returns
returns c =
    let a = c.args in
    written (text-ready a.name.now (slice-bytes _ c.type_inv.name) a.text.now (slice-bytes _ c.type_inv.text)) c.in_ok-check_tag.ensures c.if-out-name.false c.put_text_tag.ensures
