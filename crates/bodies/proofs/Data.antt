-- The data of a 'Sending part' lie wholly inside the bytes.
use Prim.Native.Nat.{ℕ, ◌-◌}
use mathlib.Core.Path.{◌≡◌, sym}
use mathlib.Core.List.{List}
use lib.ListN.{length}
use native.Mathlib.Omega.{arith}
use Rattle.format.specs.Decoding.{got}
use Rattle.format.specs.Order.{decode_dword}
use Rattle.format.specs.PacketOrder.{both, check_range, decode_range}
use Rattle.format.proofs.Codec.{same_place, settled-got, went}
use Rattle.format.proofs.There.{dword-ends}
use Rattle.wire.specs.WireAnswers.{Inside}

-- They begin after a start and an end that were read.
pub data-inside : (s : List ℕ) (at : ℕ) {range : ℕ × ℕ} {next : ℕ} → got range next ≡ decode_range s at → Inside s next (length s - next)
unfolding decode_range
data-inside s at e =
    let w = went s (both decode_dword decode_dword s at) (sym e) in
    let start = went s (decode_dword s at) w.was in
    let end = went s (decode_dword s start.mid) start.then in
    let there = dword-ends s start.mid end.was in
    let same = settled-got at 8 (check_range (length s - w.mid) w.first) w.mid w.then in
    omega (arith, there.0, there.1, same_place end.then, same.1)
