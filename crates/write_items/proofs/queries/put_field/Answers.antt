-- The parts are put one after the other: `then` of Puts.
use mathlib.Core.Path.{refl}
use mathlib.Core.List.{append_assoc}
use Rattle.format.specs.Layout.{byte, encode_query, encode_string}
use Rattle.format.proofs.Codec.{length-little_endian}
use Rattle.write_items.proofs.Pieces.{name-string}
use Rattle.write_items.proofs.Puts.{puts, regrouped, string-puts, then}
use Rattle.write_items.proofs.queries.put_field.Goals as goal

pub returns-clause-output : goal.returns-clause-output
unfolding encode_query
returns-clause-output c =
    let a = c.args in
    let first = then (puts (byte 2) 1 (length-little_endian 1 2) c.put_byte.ensures) (string-puts refl refl c.put_string-text_size.ensures.written c.put_string-text_size.ensures.output) in
    let all = then first (string-puts refl refl c.put_string-name_size.ensures.written c.put_string-name_size.ensures.output) in
    rw (name-string) (regrouped (append_assoc (byte 2) (encode_string a.text.now) (encode_string a.name.now)) refl all).output
