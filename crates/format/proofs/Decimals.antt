-- The shortest decimal of a number below 100.
use Prim.Native.Nat.{ℕ, ◌+◌, ◌-◌, ◌*◌, ◌/◌, ◌%◌, ◌<◌, ◌≤◌}
use mathlib.Core.Path.{◌≡◌, refl, sym, ap, ◌∙◌}
use mathlib.Core.List.{List, [], ◌∷◌}
use native.Mathlib.Omega.{arith}
use lib.ListN.{length}
use lib.Dec.{ltb}
use borrow.Author.Tests.{ltb-true, lt-ltb, le-ltb}
use Rattle.format.specs.Rules.{Digits}
use Rattle.format.specs.PutGaps.{decimal_of}
use Rattle.format.proofs.PartTags.{either-test}

pub decimal-one : (n : ℕ) → n < 10 → decimal_of n ≡ (0x30 + n) ∷ []
decimal-one n h = rw (lt-ltb n 10 h) refl

pub decimal-two : (n : ℕ) → 10 ≤ n → decimal_of n ≡ (0x30 + n / 10) ∷ (0x30 + n % 10) ∷ []
decimal-two n h = rw (le-ltb n 10 h) refl

pub decimal-length : (n : ℕ) → (1 ≤ length (decimal_of n)) × (length (decimal_of n) ≤ 2)
decimal-length n = either-test (ltb n 10) (λ e. rw e (omega arith, omega arith)) (λ e. rw e (omega arith, omega arith))

-- The number that one or two digits stand for, so that different numbers have different digits.
abbrev value_of : List ℕ → ℕ
value_of [] = 0
value_of (a ∷ []) = a - 0x30
value_of (a ∷ b ∷ l) = 10 * (a - 0x30) + (b - 0x30)

value-decimal : (n : ℕ) → value_of (decimal_of n) ≡ n
value-decimal n = either-test (ltb n 10) (λ e. rw e (omega arith)) (λ e. rw e (omega arith))

pub same-decimal : (n m : ℕ) → decimal_of n ≡ decimal_of m → n ≡ m
same-decimal n m e = sym (value-decimal n) ∙ ap value_of e ∙ value-decimal m

pub decimal-digits : (n : ℕ) → n < 100 → Digits (decimal_of n)
decimal-digits n h = either-test (ltb n 10)
    (λ e. let k : n < 10 = ltb-true n 10 e in
    rw e (record { some = omega arith; few = omega arith; decimal = ((omega arith, omega arith), tt) }))
    (λ e. rw e (record { some = omega arith; few = omega arith; decimal = ((omega arith, omega arith), ((omega arith, omega arith), tt)) }))
