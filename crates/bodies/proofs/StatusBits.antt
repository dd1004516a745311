-- Status bits, checked by the last of their bytes alone.
use Prim.Native.Nat.{ℕ, ◌+◌, ◌/◌, ◌%◌, ◌^◌, ◌≤◌, ◌<◌}
use mathlib.Core.Path.{◌≡◌, refl, sym, ap, ◌∙◌}
use mathlib.Core.Bool.{Bool, true, false}
use mathlib.Core.List.{List}
use lib.ListN.{length, drop, get_or}
use lib.Seq.{get_or-take, get_or-drop}
use native.Mathlib.Omega.{arith}
use borrow.Author.Tests.{eq-eqb, ne_eqb, lt-ltb, le-ltb}
use Rattle.format.specs.Bits.{spec_packed_bytes, bits_in, unused_clear}
use Rattle.format.specs.Tables.{pick}
use Rattle.format.specs.Decoding.{Fault, bytes_at, decode_run, ends, fault, got, passes, refused, settled, status_bit, violates}
use Rattle.format.specs.PacketOrder.{decode_bits}
use Rattle.format.proofs.There.{run-was}
use Rattle.bodies.specs.BodyAnswers.{BitsInside}

-- bytes that are not there
pub missing-bytes : (s : List ℕ) (at n : ℕ) {f : Fault} → refused f ≡ decode_run (spec_packed_bytes n) s at → refused f ≡ decode_bits n s at
unfolding decode_bits
missing-bytes s at n read = rw (← read) refl

module _ (s : List ℕ) (at n : ℕ) {l : List ℕ} {next : ℕ} (read : got l next ≡ decode_run (spec_packed_bytes n) s at) where
  pub bytes-there : at + spec_packed_bytes n ≤ length s
  bytes-there = (run-was s at (spec_packed_bytes n) (sym read)).0

  pub bits_inside : {held : List Bool} → got held next ≡ decode_bits n s at → BitsInside n s at
  unfolding ends
  bits_inside e = (bytes-there, rw (← e) (ap (got tt) (run-was s at (spec_packed_bytes n) (sym read)).1.0))

  judged : {t : Bool} → unused_clear n (bytes_at s at (spec_packed_bytes n)) ≡ t
      → settled at (spec_packed_bytes n) (pick t (passes (bits_in n (bytes_at s at (spec_packed_bytes n)))) (violates status_bit)) next ≡ decode_bits n s at
  unfolding decode_bits
  judged e = rw (← read, (run-was s at (spec_packed_bytes n) (sym read)).1.1, e) refl

  -- every bit of the last byte is used
  pub all-used : n % 8 ≡ 0 → got (bits_in n (bytes_at s at (spec_packed_bytes n))) next ≡ decode_bits n s at
  unfolding unused_clear
  all-used h = judged {t = true} (rw (eq-eqb _ _ h) refl)

  module _ (some : n % 8 ≡ 0 → ⊥) where
    last_byte : get_or (bytes_at s at (spec_packed_bytes n)) (n / 8) 0 ≡ get_or s (at + n / 8) 0
    last_byte = get_or-take (spec_packed_bytes n) (drop at s) (n / 8) 0 (omega arith) ∙ get_or-drop at s (n / 8) 0

    pub unused-clear : get_or s (at + n / 8) 0 < 2 ^ (n % 8) → got (bits_in n (bytes_at s at (spec_packed_bytes n))) next ≡ decode_bits n s at
    unfolding unused_clear
    unused-clear h = judged {t = true} (rw (ne_eqb _ _ some, last_byte, lt-ltb _ _ h) refl)

    pub unused-set : 2 ^ (n % 8) ≤ get_or s (at + n / 8) 0 → refused (fault status_bit at (spec_packed_bytes n)) ≡ decode_bits n s at
    unfolding unused_clear
    unused-set h = judged {t = false} (rw (ne_eqb _ _ some, last_byte, le-ltb _ _ h) refl)
