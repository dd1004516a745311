-- The parts are put one after the other: `then` of Puts.
use mathlib.Core.Path.{refl, ◌∙◌}
use mathlib.Core.List.{◌++◌, append_assoc}
use Rattle.format.specs.Layout.{bound_code, byte, dword, encode_query, encode_string}
use Rattle.format.proofs.Codec.{length-little_endian}
use Rattle.query.specs.QueryAnswers.{bound_of}
use Rattle.write_items.proofs.Pieces.{name-string}
use Rattle.write_items.proofs.Puts.{puts, regrouped, string-puts, then}
use Rattle.write_items.proofs.queries.put_limit.Goals as goal

pub returns-clause-output : goal.returns-clause-output
unfolding encode_query
returns-clause-output c =
    let a = c.args in
    let number = bound_code (bound_of a.bound) in
    let code = byte number in
    let coded = rw c.from-code.ensures at c.put_byte-2.ensures in
    let value = puts (dword a.value) 4 (length-little_endian 4 a.value) c.put_dword.ensures in
    let first = then (puts (byte 3) 1 (length-little_endian 1 3) c.put_byte.ensures) value in
    let second = then first (puts code 1 (length-little_endian 1 number) coded) in
    let all = then second (string-puts refl refl c.put_string-wrote.ensures.written c.put_string-wrote.ensures.output) in
    let grouped = append_assoc (byte 3 ++ dword a.value) code (encode_string a.name.now) ∙ append_assoc (byte 3) (dword a.value) (code ++ encode_string a.name.now) in
    rw (name-string) (regrouped grouped refl all).output
