-- The head of the entry and its counted tags: `then` of Puts.
use mathlib.Core.Path.{refl}
use mathlib.Core.List.{◌++◌}
use native.Mathlib.Omega.{arith}
use lib.ListN.{length-append}
use Rattle.format.specs.Layout.{dword}
use Rattle.format.specs.Decoding.{bytes_at}
use Rattle.format.proofs.Codec.{length-little_endian}
use Rattle.write_items.proofs.Puts.{as-puts, regrouped, then}
use Rattle.write_met.specs.Lengths.{entry_head}
use Rattle.write_met.proofs.MetEntries.{entry-bytes, head-size, tags-size}
use Rattle.write_met.proofs.put_file_entry.Goals as goal

pub returns : goal.returns
returns c =
    let a = c.args in
    let s = a.src.now in
    let known = c.type_inv.src in
    let pre = c.requires.0 in
    let tags = dword a.file.tags.count ++ bytes_at s a.file.tags.at a.tags_len in
    let put = rw c.bytes_at.ensures at c.put_list-wrote.ensures in
    let head = c.put_entry_head-at.ensures in
    let all = then (as-puts (entry_head s a.file a.parts_len) head.written (head-size s known a.file a.parts_len a.tags_len pre) head.output)
    (as-puts tags put.written (simp (length-append, length-little_endian)) put.output) in
    record {
      written = omega (arith, all.written, tags-size s known a.file a.parts_len a.tags_len pre);
      output = (regrouped (entry-bytes s known a.file a.parts_len a.tags_len pre) refl all).output;
    }
