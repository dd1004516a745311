-- Each answer follows by a law of Answers from what is known of the bytes: `ready`.
use lib.ListN.{length}
use Rattle.write_items.specs.Numbers.{spec_tag_number}
use Rattle.write_items.proofs.Answers.{faulty, roomless, tried-ready, written}
use Rattle.write_items.proofs.Pieces.{number-tag-size, tag_fits}
use Rattle.write_items.proofs.items.write_number_tag.Goals as goal

pub returns-in_err-check_tag : goal.returns-in_err-check_tag
returns-in_err-check_tag c =
    faulty (tried-ready (spec_tag_number (length c.args.name.now) 0) _ (number-tag-size c.args.code c.args.name.now c.args.value)) _ _ c.from_residual.ensures.1 c.in_err-check_tag.ensures

pub returns-then-out-name : goal.returns-then-out-name
returns-then-out-name c =
    roomless (tried-ready (spec_tag_number (length c.args.name.now) 0) _ (number-tag-size c.args.code c.args.name.now c.args.value)) c.in_ok-check_tag.ensures c.if-out-name.true

pub put_number_tag-requires : goal.put_number_tag-requires
put_number_tag-requires c = ((tag_fits (length c.args.name.now) 0 c.in_ok-check_tag.ensures).0, c.if-out-name.false)

pub returns : goal.returns
returns c =
    written (tried-ready (spec_tag_number (length c.args.name.now) 0) _ (number-tag-size c.args.code c.args.name.now c.args.value)) c.in_ok-check_tag.ensures c.if-out-name.false c.put_number_tag.ensures
