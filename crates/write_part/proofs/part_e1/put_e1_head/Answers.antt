-- The parts are put one after the other: `then` of Puts. The contexts that are named at `copy-requires` are for omega, which reads them.
use mathlib.Core.Path.{refl, ◌∙◌}
use mathlib.Core.List.{◌++◌, append_assoc}
use Rattle.format.specs.Layout.{byte, dword}
use Rattle.format.proofs.Codec.{length-little_endian}
use Rattle.wire.specs.WireAnswers.{hash_at}
use Rattle.write_items.proofs.Puts.{puts, regrouped, then}
use Rattle.write_met.proofs.MetEntries.{hash-size}
use Rattle.write_part.proofs.part_e1.put_e1_head.Goals as goal

pub returns : goal.returns
returns c =
    let a = c.args in
    let sixteen = hash-size a.src.now c.type_inv.src a.file.hash c.requires.0 in
    let copied = rw c.bytes_at.ensures at c.copy.ensures in
    let opening = puts (byte 0xE1) 1 (length-little_endian 1 0xE1) c.put_byte.ensures in
    let head = then opening (puts (byte 0x02) 1 (length-little_endian 1 0x02) c.put_byte-2.ensures) in
    let dated = then head (puts (dword a.file.date) 4 (length-little_endian 4 a.file.date) c.put_dword.ensures) in
    let hash = hash_at a.src.now a.file.hash in
    let date = dword a.file.date in
    let grouped = append_assoc (byte 0xE1 ++ byte 0x02) date hash ∙ append_assoc (byte 0xE1) (byte 0x02) (date ++ hash) in
    (regrouped grouped refl (then dated (puts hash 16 sixteen copied))).output
