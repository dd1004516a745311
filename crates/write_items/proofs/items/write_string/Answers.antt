-- The length is refused, or write_text writes what is owed.
use lib.ListN.{length}
use Rattle.wire.proofs.Replies.{slice-bytes}
use Rattle.write_items.proofs.Answers.{faulty}
use Rattle.write_items.proofs.Pieces.{count_fits}
use Rattle.write_items.proofs.Item.{string-ready}
use Rattle.write_items.proofs.items.write_string.Goals as goal

pub returns-in_err-check_string : goal.returns-in_err-check_string
returns-in_err-check_string c =
    let text = c.args.text.now in
    faulty (string-ready text (slice-bytes text c.type_inv.text)) _ _ c.from_residual.ensures.1 c.in_err-check_string.ensures

pub write_text-requires : goal.write_text-requires
write_text-requires c = (count_fits (length c.args.text.now) 0 c.in_ok-check_string.ensures).0

pub returns : goal.returns
returns c =
    let text = c.args.text.now in
    rw c.write_text.ensures ((string-ready text (slice-bytes text c.type_inv.text)).tries _ c.in_ok-check_string.ensures)
