-- The parts are put one after the other: `then` of Puts.
use mathlib.Core.Path.{refl}
use Rattle.format.specs.Layout.{byte, encode_query}
use Rattle.format.proofs.Codec.{length-little_endian}
use Rattle.write_items.proofs.Puts.{puts, string-puts, then}
use Rattle.write_items.proofs.queries.put_keyword.Goals as goal

pub returns-clause-output : goal.returns-clause-output
unfolding encode_query
returns-clause-output c =
    let all = then (puts (byte 1) 1 (length-little_endian 1 1) c.put_byte.ensures) (string-puts refl refl c.put_string-wrote.ensures.written c.put_string-wrote.ensures.output) in
    all.output
