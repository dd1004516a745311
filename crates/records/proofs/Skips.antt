-- A record whose hash, client and port are there ends where its tags do.
use Prim.Native.Nat.{ℕ, ◌+◌, ◌≤◌}
use mathlib.Core.Path.{◌≡◌}
use mathlib.Core.List.{List}
use native.Mathlib.Omega.{arith}
use lib.ListN.{length}
use Rattle.format.specs.Decoding.{ends}
use Rattle.format.specs.Order.{decode_record, decode_tags}
use Rattle.format.proofs.There.{dword-there, word-there}
use Rattle.wire.proofs.Loops.{hash-item}
use Rattle.tags.specs.Skips.{EndsThere}
use Rattle.tags.proofs.Skips.{ends-after}

pub record-ends : (s : List ℕ) (at : ℕ) → at + 22 ≤ length s → {r : ℕ} → EndsThere (ends (decode_tags s (at + 22))) r → EndsThere (ends (decode_record s at)) r
unfolding decode_record
record-ends s at h v =
    let port-at : at + 16 + 4 ≡ at + 20 = omega arith in
    let tags-at : at + 20 + 2 ≡ at + 22 = omega arith in
    rw (← (hash-item s at (omega arith)).1, ← dword-there s (at + 16) (omega arith), port-at, ← word-there s (at + 20) (omega arith), tags-at)
    (ends-after s (decode_tags s (at + 22)) _ v)
