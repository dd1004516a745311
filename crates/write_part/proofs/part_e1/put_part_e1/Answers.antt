-- The head, the tags and the area, one after the other: `then` of Puts.
use mathlib.Core.List.{◌++◌}
use native.Mathlib.Omega.{arith}
use lib.ListN.{length-append}
use Rattle.format.specs.Layout.{dword}
use Rattle.format.specs.Decoding.{bytes_at}
use Rattle.format.proofs.Codec.{length-little_endian}
use Rattle.write_items.proofs.Puts.{as-puts, puts, then}
use Rattle.write_part.specs.BlockSteps.{area_bytes, e1_head}
use Rattle.write_part.proofs.AreaBytes.{area_sized}
use Rattle.write_part.proofs.E1Places.{head-size, tags-size}
use Rattle.write_part.proofs.part_e1.put_part_e1.Goals as goal

pub returns : goal.returns
returns c =
    let a = c.args in
    let s = a.src.now in
    let known = c.type_inv.src in
    let pre = c.requires.0 in
    let tags = dword a.file.tags.count ++ bytes_at s a.file.tags.at a.tags_len in
    let put = rw c.bytes_at.ensures at c.put_list-wrote.ensures in
    let area = c.put_area-rest.ensures in
    let head = puts (e1_head s a.file) 22 (head-size s known a.file a.tags_len a.area pre) c.put_e1_head.ensures in
    let listed = then head (as-puts tags put.written (simp (length-append, length-little_endian)) put.output) in
    let all = then listed (as-puts (area_bytes s a.area) area.written (area_sized s a.area pre.1.1.lies) area.output) in
    record {
      written = omega (arith, all.written, tags-size s known a.file a.tags_len a.area pre);
      output = all.output;
    }
