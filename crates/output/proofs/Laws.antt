-- Laws of bytes written at the front of an output.
use Prim.Native.Nat.{ℕ, zero, suc, ◌+◌, ◌-◌, ◌/◌, ◌%◌, ◌≤◌, ◌<◌}
use native.Mathlib.Omega.{arith}
use native.Mathlib.Nat.{zero-add, le_of_suc-le-suc, not-suc-le-zero, div-div-eq-div-mul}
use native.Mathlib.Numerals.{add-one}
use mathlib.Core.Path.{◌≡◌, refl, ap, ◌∙◌}
use mathlib.Core.Bool.{Bool, true, false}
use mathlib.Core.Logic.{◌↔◌}
use mathlib.Core.List.{List, [], ◌∷◌, ◌++◌, append_assoc, append-nil}
use borrow.Rule.Slice.PartMut.{mid_of, put_mid}
use borrow.Author.Tests.{eq-eqb, ne_eqb, eqb-true, eqb-false}
use lib.Dec.{eqb}
use lib.ListN.{drop_of_length-le, length, take, drop, set, get_or, length-append, length-drop}
use lib.Seq.{take_all, sets, sets-eq, take-length, take-append_seam, drop-append_seam, drop-drop, drop-cons}
use Rattle.format.specs.Tables.{pick, same}
use Rattle.format.proofs.PartTags.{same_not}
use Rattle.output.specs.Agreement.{Agree}
use Rattle.format.specs.Layout.{little_endian}
use Rattle.format.specs.Writing.{overwritten}

-- The bytes of a number, as code works them out.
pub byte-bytes : (v : ℕ) → v < 256 → little_endian 1 v ≡ v ∷ []
unfolding little_endian
byte-bytes v h = ap (λ n. n ∷ []) (omega arith)

pub word_bytes : (v : ℕ) → little_endian 2 v ≡ v % 256 ∷ v / 256 % 256 ∷ []
unfolding little_endian
word_bytes v = refl

pub dword-bytes : (v : ℕ) → little_endian 4 v ≡ v % 256 ∷ v / 256 % 256 ∷ v / 65536 % 256 ∷ v / 16777216 % 256 ∷ []
unfolding little_endian
dword-bytes v = rw (div-div-eq-div-mul v 256 256, div-div-eq-div-mul v 65536 256) refl

-- One store after the other, from the first place on.
pub stores : {bytes vs : List ℕ} (l : List ℕ) → bytes ≡ vs → length vs ≤ length l → sets l 0 vs ≡ overwritten bytes l
stores {bytes} {vs} l e h = sets-eq vs l 0 (rw zero-add h) ∙ rw (zero-add, e) refl

-- A turn of the loop that copies.
store : (s d : List ℕ) (i : ℕ) → i < length s → i < length d →
    set (take i s ++ drop i d) i (get_or s i 0) ≡ take (suc i) s ++ drop (suc i) d
store [] d i h k = absurd (not-suc-le-zero h)
store (x ∷ xs) [] i h k = absurd (not-suc-le-zero k)
store (x ∷ xs) (y ∷ ys) zero h k = refl
store (x ∷ xs) (y ∷ ys) (suc i) h k = ap (λ (l : List ℕ). x ∷ l) (store xs ys i (le_of_suc-le-suc h) (le_of_suc-le-suc k))

pub copied : (s d e : List ℕ) (i : ℕ) → i < length s → i < length d → e ≡ take i s ++ drop i d →
    set e i (get_or s i 0) ≡ take (i + 1) s ++ drop (i + 1) d
copied s d e i h k q = rw (q, add-one) (store s d i h k)

pub copied_all : (s d e : List ℕ) (i : ℕ) → i ≤ length s → length s ≤ i → e ≡ take i s ++ drop i d → e ≡ overwritten s d
copied_all s d e i h k q = let z : i ≡ length s = omega arith in q ∙ rw (z, take-length) refl

-- A writer is lent the rest from k on, `&mut out[k..]`, where the k bytes p were written before: p and what it writes are at the front.
pub after : (p b old e new : List ℕ) (k : ℕ) → length p ≡ k → e ≡ overwritten p old → new ≡ overwritten b (mid_of k (length e - k) e) →
    put_mid k (length e - k) e new ≡ overwritten (p ++ b) old
after p b old e new k l q r =
    let m : take (length e - k) (drop k e) ≡ drop k e = take_all (length e - k) (drop k e) (simp length-drop (omega arith)) in
    let y : length (drop k e) ≤ length e - k = simp length-drop (omega arith) in
    let z : drop (length e - k) (drop k e) ≡ [] = drop_of_length-le (drop k e) y in
    let t : take k e ≡ p = rw (q, ← l) (take-append_seam p (drop (length p) old)) in
    let d : drop k e ≡ drop (length p) old = rw (q, ← l) (drop-append_seam p (drop (length p) old)) in
    rw (r, m, z, t, d, append-nil, drop-drop, length-append, append_assoc) refl

pub length-overwritten : (p old : List ℕ) → length p ≤ length old → length (overwritten p old) ≡ length old
length-overwritten p old h = simp (length-append, length-drop) (omega arith)

-- Two runs of bytes are compared from the front; `so_far` says that from place i on they are still to be compared.
module _ (a b : List ℕ) (i : ℕ) {t : Bool} (so_far : t ≡ same (drop i a) (drop i b)) where
  pub same_next : i < length a → i < length b → get_or a i 0 ≡ get_or b i 0 → t ≡ same (drop (i + 1) a) (drop (i + 1) b)
  unfolding same
  same_next h k e = so_far ∙ rw (drop-cons a i 0 h, drop-cons b i 0 k, eq-eqb _ _ e, add-one) refl

  pub same_stop : i < length a → i < length b → (get_or a i 0 ≡ get_or b i 0 → ⊥) → t ≡ false
  unfolding same
  same_stop h k e = so_far ∙ rw (drop-cons a i 0 h, drop-cons b i 0 k, ne_eqb _ _ e) refl

  pub same-done : length a ≤ i → length b ≤ i → t ≡ true
  unfolding same
  same-done h k = so_far ∙ rw (drop_of_length-le a h, drop_of_length-le b k) refl

-- Below n + 1 is below n, or n itself.
last-or-below : (j n : ℕ) {P : Type 0} → j < n + 1 → (j ≡ n → P) → (j < n → P) → P
last-or-below j n {P} h last below = go (eqb j n) refl
  where
    go : (t : Bool) → eqb j n ≡ t → P
    go true e = last (eqb-true j n e)
    go false e = let other = eqb-false j n e in below (omega arith)

-- One byte more of a block.
pub agree-next : (a b : List ℕ) (at n : ℕ) (t : Bool) → eqb (get_or a (at + n) 0) (get_or b (at + n) 0) ≡ t → (differ : ℕ) → (differ ≡ 0) ↔ Agree a b at n →
    (pick t differ (differ + 1) ≡ 0) ↔ Agree a b at (n + 1)
agree-next a b at n true e differ h = (
  λ z j k. last-or-below j n k (λ q. rw q (eqb-true _ _ e)) (λ below. h.0 z j below),
  λ f. h.1 (λ j k. f j (omega arith)),
)
agree-next a b at n false e differ h = (λ z. absurd (omega arith), λ f. absurd (eqb-false _ _ e (f n (omega arith))))

pub agreed : (t : Bool) (differ n : ℕ) → differ ≤ n → pick t differ (differ + 1) ≤ n + 1
agreed true differ n h = omega arith
agreed false differ n h = omega arith

-- A block that agrees is passed.
pub same_block : (a b : List ℕ) (i n : ℕ) {t : Bool} → i + n ≤ length a → i + n ≤ length b → t ≡ same (drop i a) (drop i b) → Agree a b i n →
    t ≡ same (drop (i + n) a) (drop (i + n) b)
same_block a b i zero h k so_far f = let z : i + 0 ≡ i = omega arith in rw z so_far
same_block a b i (suc n) h k so_far f =
    let before = same_block a b i n (omega arith) (omega arith) so_far (λ j l. f j (omega arith)) in
    let z : i + suc n ≡ i + n + 1 = omega arith in
    rw z (same_next a b (i + n) before (omega arith) (omega arith) (f n (omega arith)))

-- The last block agrees: from a place in it on the runs are equal.
agree-within : (a b : List ℕ) (at n i k : ℕ) → at ≤ i → i + k ≤ at + n → Agree a b at n → Agree a b i k
agree-within a b at n i k h l f j m = let z : i + j ≡ at + (i - at + j) = omega arith in rw z (f (i - at + j) (omega arith))

pub same-last : (a b : List ℕ) (at n i : ℕ) {t : Bool} → length a ≡ at + n → length b ≡ at + n → at ≤ i → i ≤ at + n →
    t ≡ same (drop i a) (drop i b) → Agree a b at n → t ≡ true
same-last a b at n i p q h k so_far f =
    let rest = at + n - i in
    let there = agree-within a b at n i rest h (omega arith) f in
    same-done a b (i + rest) (same_block a b i rest (omega arith) (omega arith) so_far there) (omega arith) (omega arith)

-- Runs of bytes that are equal agree everywhere.
pub same-agree : (a b : List ℕ) (at n : ℕ) → (Agree a b at n → ⊥) → same a b ≡ false
same-agree a b at n h = same_not a b (λ e. h (λ j k. ap (λ l. get_or l (at + j) 0) e))
