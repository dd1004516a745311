-- The status bits of 'File status': part p is bit p mod 8 of byte p / 8, and unused bits are 0.
use Rattle.std.specs.Prelude.{Bool, true, false, List, [], ◌∷◌, ℕ, zero, suc, ◌+◌, ◌*◌, ◌/◌, ◌%◌, ◌^◌, eqb, ltb, length, get_or}
use Rattle.format.specs.Tables.{pick}

-- the number of bytes that n bits take
abbrev pub spec_packed_bytes : ℕ → ℕ
spec_packed_bytes n = (n + 7) / 8

-- bit i of the byte b, 0 or 1; bit 0 is the lowest
abbrev pub bit_of : ℕ → ℕ → ℕ
bit_of b i = b / 2 ^ i % 2

-- the number of n bits whose bit i is set exactly if t i: the sum of 2 ^ i over each i below n with t i
unfoldable pub binary : (ℕ → Bool) → ℕ → ℕ
binary t zero = 0
binary t (suc n) = binary t n + pick (t n) (2 ^ n) 0

-- f 0, f 1, .. f (n - 1)
unfoldable pub tabulate : {A : Type 0} → (ℕ → A) → ℕ → List A
tabulate f zero = []
tabulate f (suc n) = f 0 ∷ tabulate (λ i. f (suc i)) n

-- the bytes of a list of bits: bit i of byte j is the bit at position 8 * j + i; past the end of the list it is 0
unfoldable pub pack_bits : List Bool → List ℕ
pack_bits bits = tabulate (λ j. binary (λ i. get_or bits (8 * j + i) false) 8) (spec_packed_bytes (length bits))

-- the first n bits of a list of bytes
unfoldable pub bits_in : ℕ → List ℕ → List Bool
bits_in n l = tabulate (λ p. eqb (bit_of (get_or l (p / 8) 0) (p % 8)) 1) n

-- whether the last of the bytes of n bits has no bit set but the n % 8 used ones; where n % 8 is 0, all its bits are used
unfoldable pub unused_clear : ℕ → List ℕ → Bool
unused_clear n l = pick (eqb (n % 8) 0) true (ltb (get_or l (n / 8) 0) (2 ^ (n % 8)))
