-- Laws of skipping an entry: where the parts before its tags lie there, it ends where its tags do.
use Prim.Native.Nat.{ℕ, ◌+◌, ◌*◌, ◌≤◌}
use mathlib.Core.Path.{◌≡◌}
use mathlib.Core.List.{List}
use native.Mathlib.Omega.{arith}
use lib.ListN.{length, get_or}
use Rattle.format.specs.Decoding.{ends}
use Rattle.format.specs.Order.{decode_counted, decode_hash, decode_tags}
use Rattle.format.specs.MetOrder.{decode_file_entry, decode_server_entry}
use Rattle.format.proofs.There.{dword-there, word-there}
use Rattle.wire.proofs.Loops.{even-list, hash-item}
use Rattle.tags.specs.Skips.{EndsThere}
use Rattle.tags.proofs.Skips.{ends-after}

pub file-entry-ends : (s : List ℕ) (at n : ℕ) → n ≡ get_or s (at + 20) 0 + 256 * get_or s (at + 21) 0 → at + 22 + 16 * n ≤ length s →
    {r : ℕ} → EndsThere (ends (decode_tags s (at + 22 + 16 * n))) r → EndsThere (ends (decode_file_entry s at)) r
unfolding decode_file_entry decode_counted
file-entry-ends s at n e h v =
    let count_at : at + 4 + 16 ≡ at + 20 = omega arith in
    let high : at + 20 + 1 ≡ at + 21 = omega arith in
    let parts_at : at + 20 + 2 ≡ at + 22 = omega arith in
    rw (
      ← dword-there s at (omega arith),
      ← (hash-item s (at + 4) (omega arith)).1,
      count_at,
      ← word-there s (at + 20) (omega arith),
      high,
      parts_at,
      ← e,
      ← (even-list decode_hash 16 hash-item s n (at + 22) h).0,
    )
    (ends-after s (decode_tags s (at + 22 + 16 * n)) _ v)

pub server-entry-ends : (s : List ℕ) (at : ℕ) → at + 6 ≤ length s → {r : ℕ} → EndsThere (ends (decode_tags s (at + 6))) r → EndsThere (ends (decode_server_entry s at)) r
unfolding decode_server_entry
server-entry-ends s at h v =
    let tags-at : at + 4 + 2 ≡ at + 6 = omega arith in
    rw (← dword-there s at (omega arith), ← word-there s (at + 4) (omega arith), tags-at) (ends-after s (decode_tags s (at + 6)) _ v)
