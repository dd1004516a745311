-- Parts of the lent bytes that begin after the end, run past it or reach to it, and the bytes of a DWORD.
use Prim.Native.Nat.{ℕ, ◌+◌, ◌-◌, ◌*◌, ◌≤◌, ◌<◌}
use mathlib.Core.Path.{◌≡◌, refl, sym, ◌∙◌}
use mathlib.Core.List.{List, []}
use lib.ListN.{length, drop, get_or, length-drop, drop_of_length-le}
use lib.Seq.{take_all, take-nil}
use native.Mathlib.Omega.{arith}
use Rattle.format.specs.Decoding.{bytes_at, got}
use Rattle.format.specs.Order.{decode_dword}
use Rattle.format.proofs.There.{dword-there}

pub to_the_end : (s : List ℕ) (at : ℕ) → bytes_at s at (length s - at) ≡ drop at s
to_the_end s at = take_all (length s - at) (drop at s) (simp length-drop (omega arith))

module _ (s : List ℕ) (at n : ℕ) where
  pub part-past : length s ≤ at → [] ≡ bytes_at s at n
  part-past h = rw (drop_of_length-le s h, take-nil n) refl

  pub part-clipped : length s - at < n → bytes_at s at (length s - at) ≡ bytes_at s at n
  part-clipped h =
      let all : length (drop at s) ≤ length s - at = simp length-drop (omega arith) in
      to_the_end s at ∙ sym (take_all n (drop at s) (omega (arith, all)))

-- the four bytes of a DWORD, each at its place
pub dword-here : (s : List ℕ) (at : ℕ) → at + 4 ≤ length s →
    got (get_or s at 0 + 256 * get_or s (at + 1) 0 + 65536 * get_or s (at + 2) 0 + 16777216 * get_or s (at + 3) 0) (at + 4) ≡ decode_dword s at
dword-here s at h =
    let third : at + 2 ≡ at + 1 + 1 = omega arith in
    let fourth : at + 3 ≡ at + 1 + 1 + 1 = omega arith in
    rw (third, fourth) (dword-there s at h)
