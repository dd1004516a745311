-- Laws of gap lists that a range is taken out of: which gaps stay as they are, which pieces are left, and how many bytes they miss.
use Prim.Native.Nat.{ℕ, zero, suc, ◌+◌, ◌-◌, ◌≤◌, ◌<◌, min, max}
use native.Mathlib.Omega.{arith}
use native.Mathlib.Nat.{add-zero}
use native.Mathlib.Decide.{dec_le, dec_lt}
use mathlib.Core.Path.{◌≡◌, refl}
use mathlib.Core.List.{List, [], ◌∷◌, ◌++◌, append-nil, append_assoc}
use lib.ListN.{length, drop}
use borrow.Author.Tests.{lt-ltb, le-ltb}
use Rattle.format.specs.Gaps.{Gap, gap, Ordered, total, between, remaining, subtract}
use Rattle.format.proofs.Gaps.{weaken}
use Rattle.gap_numbers.specs.NumberSteps.{pieces}

-- Pieces

some-between : (a b : ℕ) → a < b → between a b ≡ gap a b ∷ []
unfolding between
some-between a b h = rw (lt-ltb a b h) refl

none_between : (a b : ℕ) → b ≤ a → between a b ≡ []
unfolding between
none_between a b h = rw (le-ltb a b h) refl

pub one_between : (a b : ℕ) → length (between a b) ≤ 1
one_between a b = go (dec_lt a b)
  where
    go : Dec (a < b) → length (between a b) ≤ 1
    go (yes h) = rw (some-between a b h) (omega arith)
    go (no h) = rw (none_between a b (omega arith)) (omega arith)

total-between : (a b : ℕ) → total (between a b) ≡ b - a
unfolding total
total-between a b = go (dec_lt a b)
  where
    go : Dec (a < b) → total (between a b) ≡ b - a
    go (yes h) = rw (some-between a b h) (omega arith)
    go (no h) = rw (none_between a b (omega arith)) (omega arith)

pub total-append : (l m : List Gap) → total (l ++ m) ≡ total l + total m
unfolding total
total-append [] m = omega arith
total-append (x ∷ l) m = omega (arith, total-append l m)

-- What is left of one gap

pub kept-before : (x : Gap) (s e : ℕ) → s < e → x.start < x.end → x.end ≤ s → remaining x s e ≡ x ∷ []
unfolding remaining
kept-before x s e r h k =
    let m : min x.end s ≡ x.end = omega arith in
    rw (m, some-between x.start x.end h, none_between (max x.start e) x.end (omega arith)) refl

kept-after : (x : Gap) (s e : ℕ) → s < e → x.start < x.end → e ≤ x.start → remaining x s e ≡ x ∷ []
unfolding remaining
kept-after x s e r h k =
    let m : max x.start e ≡ x.start = omega arith in
    rw (m, some-between x.start x.end h, none_between x.start (min x.end s) (omega arith)) refl

-- on either side of the range, and in it
parts_within : (a b s e : ℕ) → a ≤ s → s < b → s < e → (s - a) + (b - e) + (min b e - s) ≡ b - a
parts_within a b s e h k t = omega arith

parts-after : (a b s e : ℕ) → s < a → s < b → (s - a) + (b - max a e) + (min b e - a) ≡ b - a
parts-after a b s e h k = go (dec_le a e)
  where
    inside : a ≤ e → (s - a) + (b - e) + (min b e - a) ≡ b - a
    inside t = omega arith

    later : e < a → (s - a) + (b - a) + (min b e - a) ≡ b - a
    later t = omega arith

    go : Dec (a ≤ e) → (s - a) + (b - max a e) + (min b e - a) ≡ b - a
    go (yes t) = let p : max a e ≡ e = omega arith in rw p (inside t)
    go (no t) = let p : max a e ≡ a = omega arith in rw p (later (omega arith))

parts : (a b s e : ℕ) → s < e → (min b s - a) + (b - max a e) + (min b e - max a s) ≡ b - a
parts a b s e h = go (dec_le b s) (dec_le a s)
  where
    go : Dec (b ≤ s) → Dec (a ≤ s) → (min b s - a) + (b - max a e) + (min b e - max a s) ≡ b - a
    go (yes k) d =
        let p : min b s ≡ b = omega arith in
        let q : min b e ≡ b = omega arith in
        let t : b - max a e ≡ 0 = omega arith in
        let u : b - max a s ≡ 0 = omega arith in
        rw (p, q, t, u, add-zero, add-zero) refl
    go (no k) (yes t) =
        let p : min b s ≡ s = omega arith in
        let q : max a s ≡ s = omega arith in
        let u : max a e ≡ e = omega arith in
        rw (p, q, u) (parts_within a b s e t (omega arith) h)
    go (no k) (no t) =
        let p : min b s ≡ s = omega arith in
        let q : max a s ≡ a = omega arith in
        rw (p, q) (parts-after a b s e (omega arith) (omega arith))

pub total-remaining : (x : Gap) (s e : ℕ) → s < e → total (remaining x s e) + (min x.end e - max x.start s) ≡ x.end - x.start
unfolding remaining
total-remaining x s e h =
    rw (total-append, total-between x.start (min x.end s), total-between (max x.start e) x.end) (parts x.start x.end s e h)

-- The pieces that a range leaves of the gaps that it touches, with one such gap more

lower-piece : (a low s : ℕ) → low ≤ s → s ≤ max low a → between (min a low) s ≡ between low s ++ between a s
lower-piece a low s h k = go (dec_lt low s) (dec_lt a s)
  where
    go : Dec (low < s) → Dec (a < s) → between (min a low) s ≡ between low s ++ between a s
    go (yes t) d =
        let p : min a low ≡ low = omega arith in
        rw (p, none_between a s (omega arith), append-nil) refl
    go (no t) (yes u) =
        let p : min a low ≡ a = omega arith in
        rw (p, none_between low s (omega arith)) refl
    go (no t) (no u) =
        rw (none_between (min a low) s (omega arith), none_between low s (omega arith), none_between a s (omega arith)) refl

pub no_pieces : (s e : ℕ) → pieces s e s e ≡ []
no_pieces s e = rw (none_between s s (omega arith), none_between e e (omega arith)) refl

pub pieces-next : (x : Gap) (s e low high : ℕ) → s < e → low ≤ s → s ≤ max low x.start → x.start < e → s < x.end → high ≤ e
    → pieces s e (min x.start low) x.end ≡ pieces s e low high ++ remaining x s e
unfolding remaining
pieces-next x s e low high h k lower begins ends upper =
    let p : min x.end s ≡ s = omega arith in
    let q : max x.start e ≡ e = omega arith in
    rw (p, q, none_between e high upper, append-nil, lower-piece x.start low s k lower, append_assoc) refl

-- What is left of all gaps

pub subtract-after : (size : ℕ) (l : List Gap) (s e low : ℕ) → s < e → e ≤ low → Ordered size low l → subtract l s e ≡ l
unfolding Ordered subtract
subtract-after size [] s e low h k o = refl
subtract-after size (x ∷ l) s e low h k o =
    rw (kept-after x s e h o.1 (omega arith), subtract-after size l s e (suc x.end) h (omega arith) o.3) refl

pub ordered-drop : (size low : ℕ) (l : List Gap) (i : ℕ) → Ordered size low l → Ordered size 0 (drop i l)
unfolding Ordered
ordered-drop size low l zero o = weaken size low 0 l (omega arith) o
ordered-drop size low [] (suc i) o = tt
ordered-drop size low (x ∷ l) (suc i) o = ordered-drop size (suc x.end) l i o.3
