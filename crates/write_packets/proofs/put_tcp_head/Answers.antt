-- The parts are put one after the other: `after` of the output's laws.
use mathlib.Core.Path.{◌≡◌}
use mathlib.Core.List.{◌++◌, append_assoc}
use Prim.Native.Nat.{◌+◌}
use native.Mathlib.Omega.{arith}
use lib.ListN.{length, length-append}
use Rattle.format.specs.Layout.{byte, dword}
use Rattle.format.proofs.Codec.{length-little_endian}
use Rattle.output.proofs.Laws.{after}
use Rattle.write_packets.proofs.put_tcp_head.Goals as goal

pub returns : goal.returns
returns c =
    let a = c.args in
    let x = byte a.opening in
    let n = dword (1 + a.size) in
    let y = byte a.opcode in
    let one = length-little_endian 1 a.opening in
    let first = after x n _ _ _ 1 one c.put_byte.ensures c.put_dword.ensures in
    let five : length (x ++ n) ≡ 5 = omega (arith, length-append x n, one, length-little_endian 4 (1 + a.size)) in
    rw (← append_assoc x n y) (after (x ++ n) y _ _ _ 5 five first c.put_byte-2.ensures)
