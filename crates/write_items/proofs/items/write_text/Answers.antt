-- The length is checked before, so only the room is left.
use mathlib.Core.Path.{refl}
use Rattle.format.specs.Layout.{encode_string}
use Rattle.write_items.proofs.Answers.{roomless, tried-ready, written}
use Rattle.write_items.proofs.Pieces.{length-string}
use Rattle.write_items.proofs.items.write_text.Goals as goal

pub returns-then-out-text : goal.returns-then-out-text
returns-then-out-text c =
    let text = c.args.text.now in
    roomless (tried-ready 0 (encode_string text) (length-string text)) refl c.if-out-text.true

pub returns : goal.returns
returns c =
    let text = c.args.text.now in
    written (tried-ready 0 (encode_string text) (length-string text)) refl c.if-out-text.false c.put_string.ensures
