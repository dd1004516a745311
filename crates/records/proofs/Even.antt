-- Addresses all have 6 bytes.
use Prim.Native.Nat.{ℕ, ◌+◌, ◌≤◌}
use mathlib.Core.Path.{◌≡◌, ap}
use mathlib.Core.List.{List}
use native.Mathlib.Omega.{arith}
use lib.ListN.{length}
use Rattle.format.specs.Messages.{Address}
use Rattle.format.specs.Decoding.{got}
use Rattle.format.specs.Order.{decode_address, decode_dword, decode_word}
use Rattle.format.proofs.There.{dword-there, word-there}

pub address-item : (s : List ℕ) (at : ℕ) → at + 6 ≤ length s → (a : Address) × (got a (at + 6) ≡ decode_address s at)
unfolding decode_address
address-item s at h = go (dword-there s at (omega arith)) (word-there s (at + 4) (omega arith))
  where
    go : {ip port : ℕ} → got ip (at + 4) ≡ decode_dword s at → got port (at + 4 + 2) ≡ decode_word s (at + 4) → (a : Address) × (got a (at + 6) ≡ decode_address s at)
    go {ip} {port} d w = let a : Address = record { ip = ip; port = port } in (a, rw (← d, ← w) (ap (got a) (omega arith)))
