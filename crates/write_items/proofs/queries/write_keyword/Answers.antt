-- Each answer follows by a law of Answers from what is known of the pieces: `keyword-ready`.
use lib.ListN.{length}
use Rattle.wire.proofs.Replies.{slice-bytes}
use Rattle.write_items.proofs.Answers.{faulty, roomless, written}
use Rattle.write_items.proofs.Pieces.{keyword-fits}
use Rattle.write_items.proofs.Leaves.{keyword-ready}
use Rattle.write_items.proofs.queries.write_keyword.Goals as goal

pub returns-in_err-check_keyword : goal.returns-in_err-check_keyword
returns-in_err-check_keyword c =
    let a = c.args in
    faulty (keyword-ready a.text.now (slice-bytes _ c.type_inv.text)) _ _ c.from_residual.ensures.1 c.in_err-check_keyword.ensures

pub returns-then-out-text : goal.returns-then-out-text
returns-then-out-text c =
    let a = c.args in
    roomless (keyword-ready a.text.now (slice-bytes _ c.type_inv.text)) c.in_ok-check_keyword.ensures c.if-out-text.true

pub put_keyword-requires : goal.put_keyword-requires
put_keyword-requires c = let fit = keyword-fits (length c.args.text.now) c.in_ok-check_keyword.ensures in (fit.0, c.if-out-text.false)

pub returns : goal.returns
returns c =
    let a = c.args in
    written (keyword-ready a.text.now (slice-bytes _ c.type_inv.text)) c.in_ok-check_keyword.ensures c.if-out-text.false c.put_keyword.ensures
