-- The parts are put one after the other: `then` of Puts.
use mathlib.Core.Path.{refl}
use mathlib.Core.List.{◌++◌, append_assoc}
use Rattle.format.specs.Layout.{byte, dword, encode_name}
use Rattle.format.proofs.Codec.{length-little_endian}
use Rattle.write_items.proofs.Pieces.{head-size}
use Rattle.write_items.proofs.Puts.{as-puts, puts, regrouped, then}
use Rattle.write_items.proofs.items.put_number_tag.Goals as goal

pub returns-clause-output : goal.returns-clause-output
returns-clause-output c =
    let a = c.args in
    let all = then (as-puts (byte a.code ++ encode_name a.name.now) c.put_tag_head-at.ensures.written (head-size a.code a.name.now) c.put_tag_head-at.ensures.output) (puts (dword a.value) 4 (length-little_endian 4 a.value) c.put_dword.ensures) in
    (regrouped (append_assoc (byte a.code) (encode_name a.name.now) (dword a.value)) refl all).output
