-- The laws of a loop that decodes n items and keeps none of them.
use Prim.Native.Nat.{ℕ, suc, ◌-◌, ◌<◌, ◌≤◌, ◌+◌}
use mathlib.Core.Path.{◌≡◌, refl, ◌∙◌}
use native.Mathlib.Omega.{arith}
use mathlib.Core.List.{List, ◌∷◌}
use Rattle.format.specs.Decoding.{Decoder, Fault, Outcome, refused, got, and_then, pure, decode_many, items_of, ends}

ends-cons : {A : Type 0} (s : List ℕ) (a : A) (o : Outcome (List A)) → ends (and_then s o (λ l. pure (a ∷ l))) ≡ ends o
unfolding ends
ends-cons s a (refused n) = refl
ends-cons s a (got l p) = refl

module _ {A : Type 0} (d : Decoder A) (s : List ℕ) where
  pub many-step : (n at : ℕ) {a : A} {p : ℕ} → got a p ≡ d s at → ends (decode_many (suc n) d s at) ≡ ends (decode_many n d s p)
  unfolding ends
  many-step n at {a} {p} e = rw (← e) (ends-cons s a (decode_many n d s p))

  many-stop : (n at : ℕ) {f : Fault} → refused f ≡ d s at → ends (decode_many (suc n) d s at) ≡ refused f
  unfolding ends
  many-stop n at e = rw (← e) refl

ends-refused : {A : Type 0} (o : Outcome A) (f : Fault) → ends o ≡ refused f → refused f ≡ o
unfolding ends
ends-refused (refused n) f e = cc
ends-refused (got l p) f e = cc

-- The items at a place that end there are all that a decoder finds.
pub ends-items : {A : Type 0} (o : Outcome (List A)) (p : ℕ) → ends o ≡ got tt p → got (items_of o) p ≡ o
unfolding ends
ends-items (refused n) p e = cc
ends-items (got l q) p e = cc

-- with i items decoded, what is left ends as the whole, o, does
module _ {A : Type 0} (d : Decoder A) (s : List ℕ) (o : Outcome (List A)) (n i at : ℕ) where
  pub loop-step : {a : A} {p : ℕ} → i < n → ends o ≡ ends (decode_many (n - i) d s at) → got a p ≡ d s at → ends o ≡ ends (decode_many (n - (i + 1)) d s p)
  loop-step h e r = let k : n - i ≡ suc (n - (i + 1)) = omega arith in (rw k at e) ∙ many-step d s (n - (i + 1)) at r

  pub loop-stop : {f : Fault} → i < n → ends o ≡ ends (decode_many (n - i) d s at) → refused f ≡ d s at → refused f ≡ o
  loop-stop {f} h e r = let m : n - i ≡ suc (n - (i + 1)) = omega arith in ends-refused o f ((rw m at e) ∙ many-stop d s (n - (i + 1)) at r)

  pub loop-ends : n ≤ i → ends o ≡ ends (decode_many (n - i) d s at) → ends o ≡ got tt at
  unfolding ends
  loop-ends h e = let m : n - i ≡ 0 = omega arith in rw m at e

  pub loop-done : n ≤ i → ends o ≡ ends (decode_many (n - i) d s at) → got (items_of o) at ≡ o
  loop-done h e = ends-items o at (loop-ends h e)
