-- The laws of a loop over the items of a list that was decoded before. They are decoded again one by one: with i of n items
-- passed, the others stand at the cursor.
use Prim.Native.Nat.{ℕ, suc, ◌+◌, ◌-◌, ◌≤◌, ◌<◌}
use mathlib.Core.Path.{◌≡◌, refl, sym, ap, ◌∙◌}
use mathlib.Core.List.{List, [], ◌∷◌}
use native.Mathlib.Nat.{sub-zero}
use native.Mathlib.Omega.{arith}
use Rattle.format.specs.Decoding.{Decoder, Fault, Outcome, refused, got, and_then, pure, decode_many, items_of, ends}
use Rattle.format.proofs.Differ.{differ}
use Rattle.format.proofs.Many.{loop-step, loop-stop}
use Rattle.tags.specs.Skips.{offset_after}

items-cons : {A : Type 0} (s : List ℕ) (a : A) (o : Outcome (List A)) {end : ℕ} → ends o ≡ got tt end
    → items_of (and_then s o (λ l. pure (a ∷ l))) ≡ a ∷ items_of o
unfolding ends
items-cons s a (refused f) e = cc
items-cons s a (got l p) e = refl

pub never-refused : {A : Type 0} (o : Outcome A) {f : Fault} {end : ℕ} → ends o ≡ got tt end → refused f ≡ o → ⊥
unfolding ends
never-refused (refused g) e q = differ cc
never-refused (got a p) e q = differ cc

module _ {A : Type 0} (d : Decoder A) (s : List ℕ) (n : ℕ) where
  -- the items that are left
  abbrev pub rest : ℕ → ℕ → List A
  rest i at = items_of (decode_many (n - i) d s at)

  -- the list begins at `first`, and with i items passed the cursor is at `at`
  pub record Reached (first i at : ℕ) : Type 0 where
    pub passed : i ≤ n
    pub same_end : ends (decode_many n d s first) ≡ ends (decode_many (n - i) d s at)

  pub reached-first : (first : ℕ) → Reached first 0 first
  reached-first first = record { passed = omega arith; same_end = rw sub-zero refl }

  pub rest-none : (i at : ℕ) → n ≤ i → rest i at ≡ []
  rest-none i at h = let m : n - i ≡ 0 = omega arith in rw m refl

  pub record Turn (first i at : ℕ) (a : A) (p : ℕ) : Type 0 where
    pub reached : Reached first (i + 1) p
    pub next : rest i at ≡ a ∷ rest (i + 1) p

  module _ (first : ℕ) {end : ℕ} (placed : ends (decode_many n d s first) ≡ got tt end) (i at : ℕ) (h : i < n) (r : Reached first i at) where
    pub rest-there : {f : Fault} → refused f ≡ d s at → ⊥
    rest-there e =
        never-refused (decode_many n d s first) placed (loop-stop d s (decode_many n d s first) n i at h r.same_end e)

    -- an item is decoded: it is the next one
    pub next-turn : {a : A} {p : ℕ} → got a p ≡ d s at → Turn first i at a p
    next-turn {a} {p} e =
        let m : n - i ≡ suc (n - (i + 1)) = omega arith in
        let same = loop-step d s (decode_many n d s first) n i at h r.same_end e in
        record {
          reached = record { passed = omega arith; same_end = same };
          next = rw (m, ← e) (items-cons s a (decode_many (n - (i + 1)) d s p) (sym same ∙ placed));
        }

    -- the item that is there
    pub next-there : (a : A) × ((p : ℕ) × (d s at ≡ got a p))
    next-there = go (d s at) refl
      where
        go : (o : Outcome A) → d s at ≡ o → (a : A) × ((p : ℕ) × (d s at ≡ got a p))
        go (refused f) q = absurd (rest-there (sym q))
        go (got a p) q = (a, (p, q))

    -- the next item, by the offset after it alone
    pub turn-after : {p : ℕ} → p ≡ offset_after (d s at) → (a : A) × ((d s at ≡ got a p) × Turn first i at a p)
    turn-after {p} e =
        let t = next-there in
        let read : d s at ≡ got t.0 p = t.1.1 ∙ ap (got t.0) (sym (e ∙ ap offset_after t.1.1)) in
        (t.0, (read, next-turn (sym read)))
