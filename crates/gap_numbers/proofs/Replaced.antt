-- What a range leaves of the gaps stands in its place: the numbers that were moved, put and cleared are those of the record.
use Prim.Native.Nat.{ℕ, suc, ◌+◌, ◌-◌, ◌*◌, ◌≤◌}
use native.Mathlib.Omega.{arith}
use mathlib.Core.Path.{◌≡◌, refl, sym, ap, ◌∙◌}
use mathlib.Core.List.{List, [], ◌∷◌, ◌++◌, append_assoc}
use lib.ListN.{length, get_or, take, drop, set, length-append, length-drop}
use lib.Seq.{paste, length-take-le}
use borrow.Rule.Slice.PartMut.{mid_of, put_mid}
use Rattle.std.specs.List.{copy_within}
use Rattle.format.specs.Gaps.{Gap, between, subtract}
use Rattle.format.specs.Writing.{overwritten}
use Rattle.gap_numbers.specs.declared.Touched.{Touched}
use Rattle.gap_numbers.specs.NumberSteps.{gaps_in, gap_number_list, Holds, pieces, Touches, Replaceable, cleared, holding}
use Rattle.gap_numbers.proofs.Numbers.{length-gap-numbers, gap-numbers-append, first-numbers, last-numbers, record-numbers}
use Rattle.gap_numbers.proofs.Moves.{all-put}
use Rattle.gap_numbers.proofs.Loops.{length-gaps}

two-first : (l : List ℕ) (k : ℕ) → 2 ≤ length l → take (suc (suc k)) l ≡ get_or l 0 0 ∷ get_or l 1 0 ∷ take k (drop 2 l)
two-first [] k h = absurd (omega arith)
two-first (x ∷ []) k h = absurd (omega arith)
two-first (x ∷ y ∷ l) k h = refl

module _ {l : List ℕ} {n : ℕ} (h : Holds l n) {s e : ℕ} {t : Touched} (c : Touches l s e t) where
  pub count_left : t.first + length (pieces s e t.low t.high) + (n - t.next) ≡ length (subtract (gaps_in l) s e)
  count_left =
      let k = length-gaps l n h in
      let a = h.counted in
      let f = length-take-le t.first (gaps_in l) (omega (arith, c.begun, c.passed)) in
      omega (arith, f, length-append (between t.low s) (between e t.high), simp (length-append, length-drop) at (ap length c.left))

module _ {l : List ℕ} {n s e count : ℕ} {t : Touched} (c : Replaceable l n s e t count) where
  abbrev left : List Gap
  left = subtract (gaps_in l) s e

  abbrev first : ℕ
  first = t.first

  abbrev next : ℕ
  next = t.next

  abbrev piece : List Gap
  piece = pieces s e t.low t.high

  few : length left ≤ 64
  few = rw c.counted at c.few

  sizes : first + length piece + (n - next) ≡ count
  sizes = count_left c.holds c.touches ∙ sym c.counted

  -- the numbers of the gaps after the range, and the place after the last gap
  abbrev later : ℕ
  later = 2 * (n - next)

  abbrev last : ℕ
  last = 2 * count + 2

  fits : 2 * first + 2 + length (gap_number_list piece) ≡ last - later
  fits = omega (arith, length-gap-numbers piece, sizes)

  pub ends : last - later + later ≡ last
  ends = omega (arith, sizes)

  inside : 2 * next + 2 + later ≤ 130
  inside = omega (arith, c.holds.few, c.touches.passed, c.holds.counted)

  kept-numbers : (take (2 * first + 2) l ++ gap_number_list piece) ++ take later (drop (2 * next + 2) l)
      ≡ get_or l 0 0 ∷ get_or l 1 0 ∷ gap_number_list left
  kept-numbers =
      let a = c.holds.counted in
      let f : get_or l 1 0 ≤ 64 = omega (arith, c.holds.few) in
      let two : 2 * first + 2 ≡ suc (suc (2 * first)) = omega arith in
      let front : take (2 * first + 2) l ≡ get_or l 0 0 ∷ get_or l 1 0 ∷ gap_number_list (take first (gaps_in l)) =
      ap (λ k. take k l) two ∙ two-first l (2 * first) (omega (arith, c.holds.long))
      ∙ ap (λ r. get_or l 0 0 ∷ get_or l 1 0 ∷ r) (sym (first-numbers l c.holds.long f first (omega (arith, c.touches.begun, c.touches.passed)))) in
      let back : take later (drop (2 * next + 2) l) ≡ gap_number_list (drop next (gaps_in l)) =
      ap (λ k. take (2 * (k - next)) (drop (2 * next + 2) l)) a ∙ sym (last-numbers l c.holds.long f next c.touches.passed) in
      rw (front, back, ← c.touches.left, gap-numbers-append (take first (gaps_in l)) (piece ++ drop next (gaps_in l)), gap-numbers-append piece (drop next (gaps_in l)))
      (ap (λ r. get_or l 0 0 ∷ get_or l 1 0 ∷ r) (append_assoc (gap_number_list (take first (gaps_in l))) (gap_number_list piece) (gap_number_list (drop next (gaps_in l)))))

  pub room : 2 * first + 2 + 2 * length piece ≤ 130
  room = omega (arith, sizes, few)

  pub replaced : (moved-numbers new cleared-numbers : List ℕ) → moved-numbers ≡ copy_within l (2 * next + 2) (2 * n + 2) (last - later)
      → new ≡ overwritten (gap_number_list piece) (mid_of (2 * first + 2) (length moved-numbers - (2 * first + 2)) moved-numbers)
      → cleared-numbers ≡ cleared (put_mid (2 * first + 2) (length moved-numbers - (2 * first + 2)) moved-numbers new) last
      → set cleared-numbers 1 count ≡ holding left l
  replaced moved-numbers new cleared-numbers moving putting clearing =
      let k : 130 - last ≡ 2 * (64 - length left) = omega arith in
      let m : 2 * n + 2 - (2 * next + 2) ≡ later = omega (arith, c.touches.passed, c.holds.counted) in
      let move = moving ∙ ap (λ j. paste l (last - later) (drop (2 * next + 2) l) j) m in
      let all = all-put l (gap_number_list piece) (2 * first + 2) (2 * next + 2) (last - later) later last fits ends (omega arith) c.holds.long (omega (arith, inside, c.holds.long)) moved-numbers move new putting in
      ap (λ r. set r 1 count) (clearing ∙ all) ∙ rw (kept-numbers, k, c.counted, record-numbers (get_or l 0 0) left l few) refl
