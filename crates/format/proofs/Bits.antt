-- Laws of bits in bytes: part p is bit p mod 8 of byte p / 8, unused bits are 0, and `pack_bits` and `bits_in` are inverse to each other.
use mathlib.Core.Path.{◌≡◌, refl, sym, ap, ◌∙◌}
use mathlib.Core.Bool.{Bool, true, false}
use mathlib.Core.List.{List, [], ◌∷◌}
use Prim.Native.Nat.{ℕ, zero, suc, ◌+◌, ◌*◌, ◌/◌, ◌%◌, ◌^◌, ◌<◌, ◌≤◌}
use native.Mathlib.Nat.{div-div-eq-div-mul, div-eq_of_lt, pow-succ'}
use native.Mathlib.Decide.{dec_le, dec_lt}
use native.Mathlib.Omega.{arith}
use borrow.Author.Tests.{eqb-false, ltb-true, lt-ltb, ne_eqb}
use lib.Dec.{eqb, ltb}
use lib.ListN.{length, get_or, get_or-eq_default}
use lib.Pow.{pow_mono}
use lib.Seq.{ext_get_or}
use Rattle.format.specs.Tables.{pick}
use Rattle.format.specs.Rules.{All, Bytes}
use Rattle.format.specs.Bits.{spec_packed_bytes, bit_of, binary, tabulate, pack_bits, bits_in, unused_clear}

-- One bit

bit-small : (t : Bool) → pick t 1 0 < 2
bit-small true = omega arith
bit-small false = omega arith

bit_test : (t : Bool) → eqb (pick t 1 0) 1 ≡ t
bit_test true = refl
bit_test false = refl

test_bit : (b : ℕ) → b < 2 → pick (eqb b 1) 1 0 ≡ b
test_bit zero h = refl
test_bit (suc zero) h = refl
test_bit (suc (suc b)) h = absurd (omega arith)

-- bit i + 1 of a number is bit i of its half
bit-suc : (b i : ℕ) → bit_of b (suc i) ≡ bit_of (b / 2) i
bit-suc b i = rw (div-div-eq-div-mul, pow-succ')

-- A number and its bits

-- the lowest bit, and twice the number of the higher bits
binary-suc : (t : ℕ → Bool) (n : ℕ) → binary t (suc n) ≡ pick (t 0) 1 0 + 2 * binary (λ i. t (suc i)) n
unfolding binary
binary-suc t zero = omega arith
binary-suc t (suc n) = omega (arith, binary-suc t n, twice (t (suc n)))
  where
    twice : (s : Bool) → pick s (2 ^ suc n) 0 ≡ 2 * pick s (2 ^ n) 0
    twice true = pow-succ' 2 n
    twice false = refl

binary-below : (t : ℕ → Bool) (n : ℕ) → binary t n < 2 ^ n
unfolding binary
binary-below t zero = omega arith
binary-below t (suc n) = omega (arith, binary-suc t n, binary-below (λ i. t (suc i)) n, bit-small (t 0))

-- no bit is set from r on
binary-clear : (t : ℕ → Bool) (r n : ℕ) → ((i : ℕ) → r ≤ i → t i ≡ false) → binary t n < 2 ^ r
unfolding binary
binary-clear t r zero z = omega (arith, pow_mono {i = 0} {j = r} (omega arith))
binary-clear t r (suc n) z = go (binary-clear t r n z) (dec_le r n)
  where
    go : binary t n < 2 ^ r → Dec (r ≤ n) → binary t (suc n) < 2 ^ r
    go b (yes h) = rw (z n h) (omega arith)
    go b (no h) = omega (arith, binary-below t (suc n), pow_mono {i = suc n} {j = r} (omega arith))

binary-bit : (t : ℕ → Bool) (n i : ℕ) → i < n → bit_of (binary t n) i ≡ pick (t i) 1 0
binary-bit t zero i h = absurd (omega arith)
binary-bit t (suc n) zero h = omega (arith, binary-suc t n, bit-small (t 0))
binary-bit t (suc n) (suc i) h =
    let half : binary t (suc n) / 2 ≡ binary (λ k. t (suc k)) n = omega (arith, binary-suc t n, bit-small (t 0)) in
    bit-suc (binary t (suc n)) i ∙ ap (λ b. bit_of b i) half ∙ binary-bit (λ k. t (suc k)) n i (omega arith)

-- a number below 2 ^ n is the number of its n bits
binary-of : (t : ℕ → Bool) (n b : ℕ) → b < 2 ^ n → ((i : ℕ) → i < n → bit_of b i ≡ pick (t i) 1 0) → binary t n ≡ b
unfolding binary
binary-of t zero b h e = omega arith
binary-of t (suc n) b h e =
    omega (
      arith,
      binary-suc t n,
      e 0 (omega arith),
      binary-of (λ k. t (suc k)) n (b / 2) (omega arith) (λ i k. sym (bit-suc b i) ∙ e (suc i) (omega arith)),
    )

-- Lists

module _ {A : Type 0} where
  all-at : (P : A → Type 0) (l : List A) (d : A) (i : ℕ) → All P l → i < length l → P (get_or l i d)
  all-at P [] d i a h = absurd (omega arith)
  all-at P (x ∷ l) d zero a h = a.0
  all-at P (x ∷ l) d (suc i) a h = all-at P l d i a.1 (omega arith)

  equal-at : (d : A) (l m : List A) (n : ℕ) → length l ≡ n → length m ≡ n → ((i : ℕ) → i < n → get_or l i d ≡ get_or m i d) → l ≡ m
  equal-at d l m n p q e = ext_get_or d l m (p ∙ sym q) (λ i h. e i (omega arith))

  tabulate-length : (f : ℕ → A) (n : ℕ) → length (tabulate f n) ≡ n
  unfolding tabulate
  tabulate-length f zero = refl
  tabulate-length f (suc n) = ap suc (tabulate-length (λ i. f (suc i)) n)

  tabulate-at : (f : ℕ → A) (n i : ℕ) (d : A) → i < n → get_or (tabulate f n) i d ≡ f i
  unfolding tabulate
  tabulate-at f zero i d h = absurd (omega arith)
  tabulate-at f (suc n) zero d h = refl
  tabulate-at f (suc n) (suc i) d h = tabulate-at (λ k. f (suc k)) n i d (omega arith)

  tabulate-all : (P : A → Type 0) (f : ℕ → A) (n : ℕ) → ((i : ℕ) → P (f i)) → All P (tabulate f n)
  unfolding tabulate
  tabulate-all P f zero h = tt
  tabulate-all P f (suc n) h = (h 0, tabulate-all P (λ i. f (suc i)) n (λ i. h (suc i)))

-- Packing

module _ (bits : List Bool) where
  pub packed-length : length (pack_bits bits) ≡ spec_packed_bytes (length bits)
  unfolding pack_bits
  packed-length = tabulate-length _ _

  pub packed-bytes : Bytes (pack_bits bits)
  unfolding pack_bits
  packed-bytes = tabulate-all (λ b. b < 256) _ _ (λ j. binary-below _ 8)

  packed_byte : (j : ℕ) → j < spec_packed_bytes (length bits) → get_or (pack_bits bits) j 0 ≡ binary (λ i. get_or bits (8 * j + i) false) 8
  unfolding pack_bits
  packed_byte j h = tabulate-at _ _ j 0 h

  -- a bit of the bytes, used or not
  packed-any : (p : ℕ) → p < 8 * spec_packed_bytes (length bits) → bit_of (get_or (pack_bits bits) (p / 8) 0) (p % 8) ≡ pick (get_or bits p false) 1 0
  packed-any p h =
      let position : 8 * (p / 8) + p % 8 ≡ p = omega arith in
      rw (packed_byte (p / 8) (omega arith))
      (binary-bit _ 8 (p % 8) (omega arith) ∙ ap (λ q. pick (get_or bits q false) 1 0) position)

  -- part p is bit p mod 8 of byte p / 8
  pub packed-bit : (p : ℕ) → p < length bits → bit_of (get_or (pack_bits bits) (p / 8) 0) (p % 8) ≡ pick (get_or bits p false) 1 0
  packed-bit p h = packed-any p (omega arith)

  -- unused bits are 0
  pub packed-unused : (p : ℕ) → length bits ≤ p → p < 8 * spec_packed_bytes (length bits) → bit_of (get_or (pack_bits bits) (p / 8) 0) (p % 8) ≡ 0
  packed-unused p h k = packed-any p k ∙ ap (λ t. pick t 1 0) (get_or-eq_default bits false h)

  pub packed-clear : unused_clear (length bits) (pack_bits bits) ≡ true
  unfolding unused_clear
  packed-clear = go (eqb (length bits % 8) 0) refl
    where
      last : (length bits % 8 ≡ 0 → ⊥) → get_or (pack_bits bits) (length bits / 8) 0 < 2 ^ (length bits % 8)
      last h =
          rw (packed_byte (length bits / 8) (omega arith))
          (binary-clear _ (length bits % 8) 8 (λ i k. get_or-eq_default bits false (omega arith)))

      go : (t : Bool) → eqb (length bits % 8) 0 ≡ t
          → pick t true (ltb (get_or (pack_bits bits) (length bits / 8) 0) (2 ^ (length bits % 8))) ≡ true
      go true e = refl
      go false e = lt-ltb _ _ (last (eqb-false _ _ e))

-- Unpacking

module _ (n : ℕ) (l : List ℕ) where
  pub bits-length : length (bits_in n l) ≡ n
  unfolding bits_in
  bits-length = tabulate-length _ n

  bits_at : (p : ℕ) → p < n → get_or (bits_in n l) p false ≡ eqb (bit_of (get_or l (p / 8) 0) (p % 8)) 1
  unfolding bits_in
  bits_at p h = tabulate-at _ n p false h

  bits-past : (p : ℕ) → n ≤ p → get_or (bits_in n l) p false ≡ false
  bits-past p h = get_or-eq_default (bits_in n l) false (omega (arith, bits-length))

  clear-below : unused_clear n l ≡ true → (n % 8 ≡ 0 → ⊥) → get_or l (n / 8) 0 < 2 ^ (n % 8)
  unfolding unused_clear
  clear-below c h = ltb-true _ _ (rw (ne_eqb (n % 8) 0 h) at c)

  -- a bit of the bytes, used or not
  bits-any : unused_clear n l ≡ true → (j i : ℕ) → j < spec_packed_bytes n → i < 8
      → bit_of (get_or l j 0) i ≡ pick (get_or (bits_in n l) (8 * j + i) false) 1 0
  bits-any c j i h k = go (dec_lt (8 * j + i) n)
    where
      go : Dec (8 * j + i < n) → bit_of (get_or l j 0) i ≡ pick (get_or (bits_in n l) (8 * j + i) false) 1 0
      go (yes u) =
          let q : (8 * j + i) / 8 ≡ j = omega arith in
          let r : (8 * j + i) % 8 ≡ i = omega arith in
          rw (bits_at (8 * j + i) u, q, r) (sym (test_bit (bit_of (get_or l j 0) i) (omega arith)))
      go (no u) =
          let last : n / 8 ≡ j = omega arith in
          let wide : 2 ^ (n % 8) ≤ 2 ^ i = pow_mono (omega arith) in
          let small : get_or l (n / 8) 0 < 2 ^ i = omega (arith, clear-below c (omega arith)) in
          rw (bits-past (8 * j + i) (omega arith), ← last, div-eq_of_lt small) refl

pub unpack-pack : (bits : List Bool) → bits_in (length bits) (pack_bits bits) ≡ bits
unpack-pack bits =
    let n : ℕ = length bits in
    equal-at false (bits_in n (pack_bits bits)) bits n (bits-length n (pack_bits bits)) refl
    (λ p h. bits_at n (pack_bits bits) p h ∙ ap (λ b. eqb b 1) (packed-bit bits p h) ∙ bit_test (get_or bits p false))

pub pack-unpack : (n : ℕ) (l : List ℕ) → length l ≡ spec_packed_bytes n → Bytes l → unused_clear n l ≡ true → pack_bits (bits_in n l) ≡ l
pack-unpack n l size bytes clear =
    equal-at 0 (pack_bits (bits_in n l)) l (spec_packed_bytes n) (packed-length (bits_in n l) ∙ ap spec_packed_bytes (bits-length n l)) size
    (λ j h. packed_byte (bits_in n l) j (omega (arith, bits-length n l))
    ∙ binary-of _ 8 (get_or l j 0) (all-at (λ b. b < 256) l 0 j bytes (omega arith)) (λ i k. bits-any n l clear j i h k))

-- Worked cases

nine-parts : pack_bits (true ∷ true ∷ true ∷ true ∷ true ∷ true ∷ true ∷ true ∷ true ∷ []) ≡ 0xFF ∷ 0x01 ∷ []
unfolding pack_bits tabulate binary
nine-parts = refl

-- parts 1 and 8 of nine
low-bit-first : pack_bits (false ∷ true ∷ false ∷ false ∷ false ∷ false ∷ false ∷ false ∷ true ∷ []) ≡ 0x02 ∷ 0x01 ∷ []
unfolding pack_bits tabulate binary
low-bit-first = refl

tenth-bit : unused_clear 9 (0xFF ∷ 0x03 ∷ []) ≡ false
unfolding unused_clear
tenth-bit = refl
