-- The parts are put one after the other: `then` of Puts.
use mathlib.Core.Path.{refl}
use mathlib.Core.List.{◌++◌, append_assoc}
use Rattle.format.specs.Layout.{byte, encode_name}
use Rattle.write_items.proofs.Pieces.{head-size}
use Rattle.write_items.proofs.Puts.{as-puts, puts, regrouped, then}
use Rattle.write_items.proofs.items.put_hash_tag.Goals as goal

pub returns-clause-output : goal.returns-clause-output
returns-clause-output c =
    let a = c.args in
    let all = then (as-puts (byte 1 ++ encode_name a.name.now) c.put_tag_head-at.ensures.written (head-size 1 a.name.now) c.put_tag_head-at.ensures.output) (puts a.hash.now 16 c.requires.1 c.copy.ensures) in
    (regrouped (append_assoc (byte 1) (encode_name a.name.now) a.hash.now) refl all).output
