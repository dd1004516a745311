-- The parts are put one after the other: `then` of Puts.
use mathlib.Core.Path.{refl, ◌∙◌}
use mathlib.Core.List.{◌++◌, append_assoc}
use native.Mathlib.Omega.{arith}
use lib.ListN.{length-append}
use Rattle.format.specs.Layout.{dword, word}
use Rattle.format.specs.Decoding.{bytes_at}
use Rattle.format.proofs.Codec.{length-little_endian}
use Rattle.write_items.proofs.Puts.{as-puts, puts, regrouped, then}
use Rattle.write_met.proofs.MetEntries.{server-bytes, server-tags-size}
use Rattle.write_met.proofs.put_server_entry.Goals as goal

pub returns : goal.returns
returns c =
    let a = c.args in
    let s = a.src.now in
    let ip = dword a.server.ip in
    let port = word a.server.port in
    let tags = dword a.server.tags.count ++ bytes_at s a.server.tags.at a.tags_len in
    let put = rw c.bytes_at.ensures at c.put_list-wrote.ensures in
    let head = then (puts ip 4 (length-little_endian 4 a.server.ip) c.put_dword.ensures) (puts port 2 (length-little_endian 2 a.server.port) c.put_word.ensures) in
    let all = then head (as-puts tags put.written (simp (length-append, length-little_endian)) put.output) in
    record {
      written = omega (arith, all.written, server-tags-size s c.type_inv.src a.server a.tags_len c.requires.0);
      output = (regrouped (append_assoc ip port tags ∙ server-bytes s c.type_inv.src a.server a.tags_len c.requires.0) refl all).output;
    }
