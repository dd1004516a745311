-- Type, length of the name, name and number are written one after the other (`tag-pieces` of Pairs).
use Rattle.put_gaps.proofs.Pairs.{tag-pieces}
use Rattle.output.proofs.Laws.{after}
use Rattle.format.proofs.Codec.{length-little_endian}
use Rattle.format.specs.PutGaps.{decimal_of}
use Rattle.format.specs.Writing.{overwritten}
use Rattle.format.specs.Layout.{byte, word, dword}
use native.Mathlib.Omega.{arith}
use lib.ListN.{length, length-append}
use Prim.Native.Nat.{◌+◌}
use mathlib.Core.List.{◌++◌}
use mathlib.Core.Path.{ap, ◌∙◌}
use Rattle.put_gaps.proofs.put_gap_tag.Goals as goal

pub returns-clause-output : goal.returns-clause-output
returns-clause-output c =
    let a = c.args in
    let d = decimal_of a.i in
    let p = byte 3 ++ word (1 + length d) in
    let typed = c.put_byte.ensures in
    let counted = rw c.digit_count-digits.ensures at c.put_word.ensures in
    let named = c.put_byte-2.ensures in
    let first = after (byte 3) (word (1 + length d)) _ _ _ 1 (length-little_endian 1 3) typed counted in
    let second = after p (byte a.first) _ _ _ 3 (simp (length-append, length-little_endian)) first named in
    let digits = c.put_decimal.ensures in
    let third = after (p ++ byte a.first) d _ _ _ 4 (simp (length-append, length-little_endian)) second digits in
    let last = after ((p ++ byte a.first) ++ d) (dword a.value) _ _ _ _
    (simp (length-append, length-little_endian) (omega (arith, c.digit_count-digits.ensures))) third c.put_dword.ensures in
    let tag = tag-pieces a.first d a.value (omega arith) in
    last ∙ ap (λ l. overwritten l a.out.now) tag
