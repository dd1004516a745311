-- The parts are put one after the other: `then` of Puts.
use mathlib.Core.Path.{refl}
use mathlib.Core.List.{◌++◌, append_assoc}
use native.Mathlib.Omega.{arith}
use lib.ListN.{length-append}
use Rattle.format.specs.Layout.{dword, word}
use Rattle.format.specs.Decoding.{bytes_at}
use Rattle.format.proofs.Codec.{length-little_endian}
use Rattle.wire.specs.WireAnswers.{hash_at}
use Rattle.write_items.proofs.Puts.{as-puts, puts, regrouped, then}
use Rattle.write_met.proofs.MetEntries.{hash-size, parts-size}
use Rattle.write_met.proofs.put_entry_head.Goals as goal

pub returns : goal.returns
returns c =
    let a = c.args in
    let s = a.src.now in
    let date = dword a.file.date in
    let hash = hash_at s a.file.hash in
    let parts = word a.file.parts.count ++ bytes_at s a.file.parts.at a.parts_len in
    let put = rw c.bytes_at-2.ensures at c.put_hashes-wrote.ensures in
    let dated = puts date 4 (length-little_endian 4 a.file.date) c.put_dword.ensures in
    let hashed = then dated (puts hash 16 (hash-size s c.type_inv.src a.file.hash c.requires.0) (rw c.bytes_at.ensures at c.copy.ensures)) in
    let all = then hashed (as-puts parts put.written (simp (length-append, length-little_endian)) put.output) in
    record {
      written = omega (arith, all.written, parts-size s c.type_inv.src a.file.parts a.parts_len c.requires.1);
      output = (regrouped (append_assoc date hash parts) refl all).output;
    }
