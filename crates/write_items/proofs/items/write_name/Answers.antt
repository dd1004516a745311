-- The length is refused, or write_text writes what is owed.
use lib.ListN.{length}
use Rattle.wire.proofs.Replies.{slice-bytes}
use Rattle.write_items.proofs.Answers.{faulty}
use Rattle.write_items.proofs.Pieces.{tag_fits}
use Rattle.write_items.proofs.Item.{name-ready}
use Rattle.write_items.proofs.items.write_name.Goals as goal

pub returns-in_err-check_tag : goal.returns-in_err-check_tag
returns-in_err-check_tag c =
    let name = c.args.name.now in
    faulty (name-ready name (slice-bytes name c.type_inv.name)) _ _ c.from_residual.ensures.1 c.in_err-check_tag.ensures

pub write_text-requires : goal.write_text-requires
write_text-requires c = (tag_fits (length c.args.name.now) 0 c.in_ok-check_tag.ensures).0

pub returns : goal.returns
returns c =
    let name = c.args.name.now in
    rw c.write_text.ensures ((name-ready name (slice-bytes name c.type_inv.name)).tries _ c.in_ok-check_tag.ensures)
