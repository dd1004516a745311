-- The parts are put one after the other: `then` of Puts.
use mathlib.Core.Path.{refl, ◌∙◌}
use mathlib.Core.List.{◌++◌, append_assoc}
use lib.ListN.{length}
use Rattle.format.specs.Layout.{byte, operator_code}
use Rattle.format.proofs.Codec.{length-little_endian}
use Rattle.query.specs.QueryAnswers.{operator_of}
use Rattle.write_items.proofs.Puts.{puts, regrouped, then}
use Rattle.write_items.proofs.queries.put_join.Goals as goal

pub returns-clause-output : goal.returns-clause-output
returns-clause-output c =
    let a = c.args in
    let left = a.left.now in
    let right = a.right.now in
    let number = operator_code (operator_of a.operator) in
    let code = byte number in
    let coded = rw c.from-code.ensures at c.put_byte-2.ensures in
    let head = then (puts (byte 0) 1 (length-little_endian 1 0) c.put_byte.ensures) (puts code 1 (length-little_endian 1 number) coded) in
    let first = then head (puts left (length left) refl c.copy.ensures) in
    let all = then first (puts right (length right) refl c.copy-2.ensures) in
    let grouped = append_assoc (byte 0 ++ code) left right ∙ append_assoc (byte 0) code (left ++ right) in
    (regrouped grouped refl all).output
