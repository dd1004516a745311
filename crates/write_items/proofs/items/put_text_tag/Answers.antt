-- The parts are put one after the other: `then` of Puts.
use mathlib.Core.Path.{refl}
use mathlib.Core.List.{◌++◌, append_assoc}
use Rattle.format.specs.Layout.{byte, encode_name, encode_string}
use Rattle.write_items.proofs.Pieces.{head-size}
use Rattle.write_items.proofs.Puts.{as-puts, regrouped, string-puts, then}
use Rattle.write_items.proofs.items.put_text_tag.Goals as goal

pub returns-clause-output : goal.returns-clause-output
returns-clause-output c =
    let a = c.args in
    let all = then (as-puts (byte 2 ++ encode_name a.name.now) c.put_tag_head-at.ensures.written (head-size 2 a.name.now) c.put_tag_head-at.ensures.output) (string-puts refl refl c.put_string-wrote.ensures.written c.put_string-wrote.ensures.output) in
    (regrouped (append_assoc (byte 2) (encode_name a.name.now) (encode_string a.text.now)) refl all).output
