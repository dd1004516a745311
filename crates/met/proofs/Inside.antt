-- Where the parts of a file end that stand before a list without a count, and before the tail.
use Prim.Native.Nat.{ℕ, ◌≤◌}
use mathlib.Core.Path.{◌≡◌, sym}
use mathlib.Core.List.{List}
use lib.ListN.{length, get_or}
use native.Mathlib.Omega.{arith}
use mir.Syntax.{w8}
use mir.Val.{Fits}
use Rattle.format.specs.Decoding.{choice, decode_many, decode_run, found, got}
use Rattle.format.specs.Tables.{lookup}
use Rattle.format.specs.Messages.{ServerEntry}
use Rattle.format.specs.Order.{decode_byte, decode_code, decode_counted, decode_dword, decode_hash}
use Rattle.format.specs.MetOrder.{Mark, decode_server_entry, marks}
use Rattle.format.proofs.Codec.{anywhere, codec-many, codec-run, settled-got, went}
use Rattle.format.proofs.MetFiles.{codec-server}
use Rattle.format.proofs.There.{byte-ends, dword-ends}
use Rattle.format.proofs.Items.{codec-hash}
use Rattle.std.specs.Prelude.{Ok}
use Rattle.wire.specs.declared.Cursor.{Cursor}
use Rattle.wire.specs.declared.Items.{Items}
use Rattle.wire.specs.WireAnswers.{items_in, ItemsInside, ItemsPlaced}
use Rattle.wire.proofs.Inside.{items-inside}
use Rattle.wire.proofs.Replies.{slice-bytes}

mark-inside : (s : List ℕ) (at : ℕ) {m : Mark} {next : ℕ} → got m next ≡ decode_code marks s at → next ≤ length s
unfolding decode_code
mark-inside s at e =
    let w = went s (decode_byte s at) (sym e) in
    let there = byte-ends s at w.was in
    let same = settled-got at 1 (found choice (lookup marks w.first)) w.mid w.then in
    omega (arith, there.0, there.1, same.1)

pub entries_inside : (s : List ℕ) → ((i : ℕ) → Fits w8 (get_or s i 0)) → (at : ℕ) {l : List ServerEntry} {next : ℕ} →
    got l next ≡ decode_counted decode_dword decode_server_entry s at → next ≤ length s
unfolding decode_counted
entries_inside s known at e =
    let w = went s (decode_dword s at) (sym e) in
    let there = dword-ends s at w.was in
    ((codec-many {p = anywhere} w.first codec-server).sound s (slice-bytes s known) w.mid (omega (arith, there.0, there.1)) _ _ w.then tt).inside

-- A list without a count that was read after a mark.
module _ (s : List ℕ) (known : (i : ℕ) → Fits w8 (get_or s i 0)) (at n : ℕ) {m : Mark} {next : ℕ} (mark : got m next ≡ decode_code marks s at) (l : Items) (c : Cursor) where
  pub hashes_inside : got (items_in decode_hash s l) c.at ≡ decode_many n decode_hash s next → ItemsPlaced decode_hash s l × (l.end ≡ c.at) → ItemsInside decode_hash s l
  hashes_inside read placed = items-inside codec-hash s known (Ok (l, c)) n next (mark-inside s at mark) read placed

  pub block_hashes_inside : got (items_in (decode_run 8) s l) c.at ≡ decode_many n (decode_run 8) s next → ItemsPlaced (decode_run 8) s l × (l.end ≡ c.at) → ItemsInside (decode_run 8) s l
  block_hashes_inside read placed = items-inside (codec-run {p = anywhere} 8) s known (Ok (l, c)) n next (mark-inside s at mark) read placed
