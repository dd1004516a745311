-- What was decoded lies wholly inside the bytes.
use Prim.Native.Nat.{ℕ, ◌+◌, ◌≤◌}
use mathlib.Core.Path.{◌≡◌, sym, ap, ◌∙◌}
use mathlib.Core.List.{List}
use lib.ListN.{length, drop, get_or, length-drop, length-take}
use native.Mathlib.Omega.{arith}
use mir.Syntax.{w8}
use mir.Val.{Fits}
use Rattle.format.specs.Decoding.{Decoder, bytes_at, decode_many, got}
use Rattle.format.specs.Order.{decode_counted, decode_hash}
use Rattle.format.proofs.Codec.{Codec, anywhere, codec-many}
use Rattle.format.proofs.There.{run_length, run-was}
use Rattle.std.specs.Prelude.{Ok, Err}
use Rattle.wire.specs.declared.Items.{Items}
use Rattle.wire.specs.WireAnswers.{HashInside, ItemsStepInside, ItemsStepPlaced, Step, hash_at, items_meaning}
use Rattle.wire.proofs.Replies.{slice-bytes}

-- A hash that was decoded has 16 bytes, and only a place wholly inside has as many.
pub hash-inside : (s : List ℕ) (at from : ℕ) {next : ℕ} → got (hash_at s at) next ≡ decode_hash s from → HashInside s at
unfolding decode_hash
hash-inside s at from e =
    let same : length (bytes_at s at 16) ≡ 16 = ap length (run-was s from 16 (sym e)).1.1 ∙ run_length s from 16 (sym e) in
    omega (arith, same, length-take 16 (drop at s), length-drop at s)

-- A list that begins inside and ends at the cursor.
module _ {A : Type 0} {d : Decoder A} {encode : A → List ℕ} {Valid : A → Type 0} (C : Codec anywhere d encode Valid) (s : List ℕ) (known : (i : ℕ) → Fits w8 (get_or s i 0)) where
  pub items-inside : (r : Step Items) (n first : ℕ) → first ≤ length s → items_meaning d s r ≡ decode_many n d s first → ItemsStepPlaced d s r → ItemsStepInside d s r
  items-inside (Ok (l, c)) n first h read p =
      (p.0, omega (arith, p.1, ((codec-many {p = anywhere} n C).sound s (slice-bytes s known) first h _ _ (sym read) tt).inside))
  items-inside (Err f) n first h read p = tt

  -- A count of k bytes and the list after it: the two clauses of its reader's contract.
  pub counted-inside : (count : Decoder ℕ) (at k : ℕ) {n first : ℕ} → (count s at ≡ got n first → (at + k ≤ length s) × (first ≡ at + k)) → got n first ≡ count s at → (r : Step Items) →
      (items_meaning d s r ≡ decode_many n d s first) × ItemsStepPlaced d s r → (items_meaning d s r ≡ decode_counted count d s at) × ItemsStepInside d s r
  unfolding decode_counted
  counted-inside count at k {n} {first} size read r list =
      let there = size (sym read) in
      (rw (← read) list.0, items-inside r n first (omega (arith, there.0, there.1)) list.0 list.1)
