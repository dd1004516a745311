-- The loop that reads n items and keeps none of them, over the decoder of one item.
use Prim.Native.Nat.{ℕ, zero, suc, ◌+◌, ◌-◌, ◌*◌, ◌≤◌, ◌<◌}
use mathlib.Core.Path.{◌≡◌, refl, ap, sym, ◌∙◌}
use mathlib.Core.List.{List}
use native.Mathlib.Nat.{mul-suc, mul-zero, sub-zero}
use lib.ListN.{length}
use native.Mathlib.Omega.{arith}
use Rattle.format.specs.Decoding.{Decoder, Fault, Outcome, bytes_at, decode_many, decode_run, ends, got, items_of, refused}
use Rattle.format.specs.Order.{decode_hash}
use Rattle.format.proofs.Differ.{differ}
use Rattle.format.proofs.There.{run-there}
use Rattle.std.specs.Prelude.{Ok, Err}
use Rattle.wire.specs.declared.Items.{Items}
use Rattle.wire.specs.WireAnswers.{Step, step_meaning, end_meaning, items_meaning, ItemsAre, ItemsStepPlaced}
use Rattle.format.proofs.Many.{ends-items, many-step, loop-step, loop-stop, loop-ends, loop-done}

-- The invariant: i of the n items are read, and the others lie from `at` on up to where the whole list ends.
abbrev pub ReadUpTo : {A : Type 0} → Decoder A → List ℕ → (first n i at : ℕ) → Type 0
ReadUpTo d s first n i at = (i ≤ n) × (ends (decode_many n d s first) ≡ ends (decode_many (n - i) d s at))

-- What an outcome was, by its end.
pub ended-got : {A : Type 0} (o : Outcome A) {next : ℕ} → got tt next ≡ ends o → (a : A) × (got a next ≡ o)
unfolding ends
ended-got (refused f) e = differ cc
ended-got (got a p) e = (a, cc)

pub ended-refused : {A : Type 0} (o : Outcome A) {f : Fault} → refused f ≡ ends o → refused f ≡ o
unfolding ends
ended-refused (refused g) e = cc
ended-refused (got a p) e = differ cc

module _ {A : Type 0} (d : Decoder A) (s : List ℕ) (first n : ℕ) where
  pub begins : ReadUpTo d s first n 0 first
  begins = (omega arith, rw sub-zero refl)

  module _ (i at : ℕ) where
    pub goes_on : {a : A} {next : ℕ} → i < n → ReadUpTo d s first n i at → got a next ≡ d s at → ReadUpTo d s first n (i + 1) next
    goes_on h inv read = (omega arith, loop-step d s _ n i at h inv.1 read)

    -- What the two clauses of a contract ask: the meaning, and that the list lies where it is said to lie.

    pub refuses : {f : Fault} → i < n → ReadUpTo d s first n i at → refused f ≡ d s at → (refused f ≡ decode_many n d s first) × Unit {0}
    refuses h inv read = (loop-stop d s _ n i at h inv.1 read, tt)

    pub finishes : n ≤ i → ReadUpTo d s first n i at
        → (got (items_of (decode_many n d s first)) at ≡ decode_many n d s first) × ((ends (decode_many n d s first) ≡ got tt at) × (at ≡ at))
    finishes h inv = (loop-done d s _ n i at h inv.1, (loop-ends d s _ n i at h inv.1, refl))

    -- A step that skips an item and keeps none of its values.
    pub goes_over : {next : ℕ} → i < n → ReadUpTo d s first n i at → got tt next ≡ ends (d s at) → ReadUpTo d s first n (i + 1) next
    goes_over h inv read = goes_on h inv (ended-got (d s at) read).1

    pub refuses-over : {f : Fault} → i < n → ReadUpTo d s first n i at → refused f ≡ ends (d s at) → (refused f ≡ decode_many n d s first) × Unit {0}
    refuses-over h inv read = refuses h inv (ended-refused (d s at) read)

-- A decoder without its values, and what n of its items end as.
abbrev pub bare : {A : Type 0} → Decoder A → Decoder (Unit {0})
bare d s at = ends (d s at)

pub bare-ended : {A B : Type 0} (mean : A → B) (answer : Step A) {o : Outcome B} → step_meaning mean answer ≡ o → end_meaning answer ≡ ends o
unfolding ends
bare-ended mean (Ok (v, c)) e = rw (← e) refl
bare-ended mean (Err f) e = rw (← e) refl

module _ {A : Type 0} (d : Decoder A) (s : List ℕ) where
  bare-turn : (n at : ℕ) → ((p : ℕ) → ends (decode_many n (bare d) s p) ≡ ends (decode_many n d s p)) → (o : Outcome A) → o ≡ d s at
      → ends (decode_many (suc n) (bare d) s at) ≡ ends (decode_many (suc n) d s at)
  unfolding ends
  bare-turn n at rest (refused f) e = rw (← e) refl
  bare-turn n at rest (got a p) e = many-step (bare d) s n at (rw (← e) refl) ∙ rest p ∙ sym (many-step d s n at e)

  bare-many : (n at : ℕ) → ends (decode_many n (bare d) s at) ≡ ends (decode_many n d s at)
  unfolding ends
  bare-many zero at = refl
  bare-many (suc n) at = bare-turn n at (bare-many n) (d s at) refl

  -- What `items_from` ensures, where its reader answers what this decoder finds.
  pub items-read : (n at : ℕ) (answer : Step Items) → end_meaning answer ≡ ends (decode_many n (bare d) s at) → ItemsAre at n answer
      → (items_meaning d s answer ≡ decode_many n d s at) × ItemsStepPlaced d s answer
  items-read n at (Ok (l, c)) e are = let lies = sym (e ∙ bare-many n at) in rw are (ends-items _ _ lies, (lies, refl))
  items-read n at (Err f) e are = (ended-refused _ (e ∙ bare-many n at), tt)

-- Items that all have k bytes: n of them lie there if their bytes do.
module _ {A : Type 0} (d : Decoder A) (k : ℕ) (item : (s : List ℕ) (at : ℕ) → at + k ≤ length s → (a : A) × (got a (at + k) ≡ d s at)) (s : List ℕ) where
  even-ends : (n at : ℕ) → at + k * n ≤ length s → ends (decode_many n d s at) ≡ got tt (at + k * n)
  unfolding ends
  even-ends zero at h = rw mul-zero (ap (got tt) (omega arith))
  even-ends (suc n) at h =
      let size : k * suc n ≡ k * n + k = mul-suc k n in
      let first = item s at (omega (arith, size)) in
      let rest = even-ends n (at + k) (omega (arith, size)) in
      many-step d s n at first.1 ∙ rest ∙ ap (got tt) (omega (arith, size))

  pub even-list : (n at : ℕ) → at + k * n ≤ length s →
      (got (items_of (decode_many n d s at)) (at + k * n) ≡ decode_many n d s at) × ((ends (decode_many n d s at) ≡ got tt (at + k * n)) × (at + k * n ≡ at + k * n))
  even-list n at h = let e = even-ends n at h in (ends-items (decode_many n d s at) (at + k * n) e, (e, refl))

-- A run, and a hash, is such an item.
pub run-item : (k : ℕ) (s : List ℕ) (at : ℕ) → at + k ≤ length s → (l : List ℕ) × (got l (at + k) ≡ decode_run k s at)
run-item k s at h = (bytes_at s at k, run-there s at k h)

pub hash-item : (s : List ℕ) (at : ℕ) → at + 16 ≤ length s → (l : List ℕ) × (got l (at + 16) ≡ decode_hash s at)
unfolding decode_hash
hash-item = run-item 16
