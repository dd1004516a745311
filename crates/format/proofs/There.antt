-- What code cites of runs and numbers: there, or short.
use Prim.Native.Nat.{ℕ, suc, ◌+◌, ◌*◌, ◌≤◌, ◌<◌}
use mathlib.Core.Path.{◌≡◌, refl, sym, ap, ◌∙◌}
use mathlib.Core.List.{List, ◌∷◌}
use lib.ListN.{length, drop, get_or, length-drop}
use lib.Seq.{drop-cons, length-take-le}
use native.Mathlib.Omega.{arith}
use native.Mathlib.Numerals.{add-one}
use native.Mathlib.Decide.{dec_le}
use borrow.Author.Tests.{le-leb, lt-leb}
use Rattle.format.specs.Messages.{TagType}
use Rattle.format.specs.Decoding.{and_then, bytes_at, decode_number, decode_run, fault, from_little_endian, got, pure, refused, short}
use Rattle.format.specs.Order.{decode_byte, decode_dword, decode_value, decode_value_of, decode_word}
use Rattle.format.proofs.Differ.{differ}
use Rattle.format.proofs.Codec.{Went, same_place, went}

module _ (s : List ℕ) (at n : ℕ) where
  pub run-there : at + n ≤ length s → got (bytes_at s at n) (at + n) ≡ decode_run n s at
  unfolding decode_run
  run-there h = rw (le-leb _ _ h)

  pub run_short : length s < at + n → refused (fault short at n) ≡ decode_run n s at
  unfolding decode_run
  run_short h = rw (lt-leb _ _ h)

-- A run that was decoded lies there, and is what lies there.
module _ (s : List ℕ) (at n : ℕ) {l : List ℕ} {next : ℕ} where
  pub run-was : decode_run n s at ≡ got l next → (at + n ≤ length s) × ((next ≡ at + n) × (l ≡ bytes_at s at n))
  run-was e = go (dec_le (at + n) (length s))
    where
      go : Dec (at + n ≤ length s) → (at + n ≤ length s) × ((next ≡ at + n) × (l ≡ bytes_at s at n))
      go (yes h) = (h, (cc (e, run-there s at n h), cc (e, run-there s at n h)))
      go (no f) = differ (cc (e, run_short s at n (omega arith)))

  pub run_length : decode_run n s at ≡ got l next → length (bytes_at s at n) ≡ n
  run_length e = length-take-le n (drop at s) (omega (arith, (run-was e).0, length-drop at s))

-- A number that was decoded lies there.
module _ (s : List ℕ) (at : ℕ) {v next : ℕ} where
  number-ends : (k : ℕ) → decode_number k s at ≡ got v next → (at + k ≤ length s) × (next ≡ at + k)
  number-ends k e =
      let w : Went s (decode_run k s at) (λ l. pure (from_little_endian l)) v next = went s (decode_run k s at) e in
      let r = run-was s at k w.was in
      (r.0, sym (same_place w.then) ∙ r.1.0)

  pub byte-ends : decode_byte s at ≡ got v next → (at + 1 ≤ length s) × (next ≡ at + 1)
  unfolding decode_byte
  byte-ends e = number-ends 1 e

  pub word-ends : decode_word s at ≡ got v next → (at + 2 ≤ length s) × (next ≡ at + 2)
  unfolding decode_word
  word-ends e = number-ends 2 e

  pub dword-ends : decode_dword s at ≡ got v next → (at + 4 ≤ length s) × (next ≡ at + 4)
  unfolding decode_dword
  dword-ends e = number-ends 4 e

-- The first byte of a run.
pub part-cons : (s : List ℕ) (at n : ℕ) → at < length s → bytes_at s at (suc n) ≡ get_or s at 0 ∷ bytes_at s (at + 1) n
part-cons s at n h = rw (drop-cons s at 0 h, add-one)

module _ (s : List ℕ) (at : ℕ) where
  pub word-there : at + 2 ≤ length s → got (get_or s at 0 + 256 * get_or s (at + 1) 0) (at + 2) ≡ decode_word s at
  unfolding decode_word from_little_endian
  word-there h = rw (← run-there s at 2 h, part-cons s at 1 (omega arith), part-cons s (at + 1) 0 (omega arith)) (ap (λ n. got n (at + 2)) (omega arith))

  pub word-short : length s < at + 2 → refused (fault short at 2) ≡ decode_word s at
  unfolding decode_word
  word-short h = rw (← run_short s at 2 h)

  pub byte-there : at + 1 ≤ length s → got (get_or s at 0) (at + 1) ≡ decode_byte s at
  unfolding decode_byte from_little_endian
  byte-there h = rw (← run-there s at 1 h, part-cons s at 0 (omega arith)) (ap (λ n. got n (at + 1)) (omega arith))

  pub byte-short : length s < at + 1 → refused (fault short at 1) ≡ decode_byte s at
  unfolding decode_byte
  byte-short h = rw (← run_short s at 1 h)

  pub dword-there : at + 4 ≤ length s → got (get_or s at 0 + 256 * get_or s (at + 1) 0 + 65536 * get_or s (at + 1 + 1) 0 + 16777216 * get_or s (at + 1 + 1 + 1) 0) (at + 4) ≡ decode_dword s at
  unfolding decode_dword from_little_endian
  dword-there h =
      rw (← run-there s at 4 h, part-cons s at 3 (omega arith), part-cons s (at + 1) 2 (omega arith), part-cons s (at + 1 + 1) 1 (omega arith), part-cons s (at + 1 + 1 + 1) 0 (omega arith))
      (ap (λ n. got n (at + 4)) (omega arith))

  pub dword-short : length s < at + 4 → refused (fault short at 4) ≡ decode_dword s at
  unfolding decode_dword
  dword-short h = rw (← run_short s at 4 h)

-- A tag's value, by its type.
pub value-is : (k : TagType) (s : List ℕ) (at : ℕ) → decode_value k s at ≡ and_then s (decode_value_of k s at) (λ v. pure (k, v))
unfolding decode_value
value-is k s at = refl
