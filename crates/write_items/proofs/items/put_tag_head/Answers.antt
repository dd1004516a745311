-- The parts are put one after the other: `then` of Puts.
use mathlib.Core.Path.{refl}
use Rattle.format.specs.Layout.{byte}
use Rattle.format.proofs.Codec.{length-little_endian}
use Rattle.write_items.proofs.Pieces.{name-string}
use Rattle.write_items.proofs.Puts.{puts, string-puts, then}
use Rattle.write_items.proofs.items.put_tag_head.Goals as goal

pub returns-clause-output : goal.returns-clause-output
returns-clause-output c =
    let code = c.args.code in
    let all = then (puts (byte code) 1 (length-little_endian 1 code) c.put_byte.ensures) (string-puts refl refl c.put_string-wrote.ensures.written c.put_string-wrote.ensures.output) in
    rw (name-string) all.output
