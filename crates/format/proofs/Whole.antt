-- Decoders that go to the end of the bytes, and what the answer to a caller says.
use mathlib.Core.Path.{◌≡◌, refl, sym, ap, ◌∙◌, ap₂}
use mathlib.Core.Bool.{Bool, true, false}
use mathlib.Core.Logic.{◌↔◌, ◌⊎◌, inl, inr}
use mathlib.Core.List.{List, [], ◌++◌, append_assoc, append-nil}
use Prim.Native.Nat.{ℕ, ◌+◌, ◌-◌, ◌<◌, ◌≤◌}
use native.Mathlib.Omega.{arith}
use native.Mathlib.Nat.{add_assoc}
use lib.ListN.{length, drop, length-append, length-drop}
use lib.Seq.{drop-length}
use lib.Dec.{leb, eqb}
use borrow.Author.Tests.{le-leb, leb-true, eqb-true, eqb-false, eq-eqb, ne_eqb}
use Rattle.format.specs.Tables.{pick}
use Rattle.format.specs.Layout.{dword, either}
use Rattle.format.specs.Rules.{Bytes, Dword}
use Rattle.format.specs.Decoding.{Check, Decoder, Outcome, Rule, ◌>>=◌, ◌>>◌, accepted, checked_before, decode_whole, fault, finish, got, passes, pure, refusal, refused, violates}
use Rattle.format.specs.PacketOrder.{by_size, check_length, decode_length}
use Rattle.format.proofs.Differ.{differ}
use Rattle.format.proofs.Codec.{anywhere, at_end, Codec, Found, same-value, same_place, moved, went, glue, behind, fits, settled-got, codec-via, regroup, no_more, same, recast, codec-dword, unless-violates, if-passes}

-- What is checked by the number of bytes after it, and then these.
pub codec-before : {A : Type 0} {B : A → Type 0} {r : Decoder A} {q : (a : A) → Decoder (B a)} {encode : A → List ℕ} {Valid : A → Type 0}
    {encode' : (a : A) → B a → List ℕ} {Valid' : (a : A) → B a → Type 0} (k : ℕ) (check : ℕ → A → Check A) → ((n : ℕ) (a b : A) → check n a ≡ passes b → a ≡ b) →
    Codec anywhere r encode Valid → ((a : A) → Codec at_end (q a) (encode' a) (Valid' a)) →
    Codec {A = (a : A) × B a} at_end (checked_before k check r >>= (λ a. q a >>= (λ b. pure (a, b)))) (λ c. encode c.0 ++ encode' c.0 c.1)
    (λ c. Valid c.0 × (Valid' c.0 c.1 × (check (length (encode' c.0 c.1)) c.0 ≡ passes c.0)))
codec-before {A} {B} {r} {q} {encode} {Valid} {encode'} {Valid'} k check same-one L M = record {
  sound = λ s hb at i c next e z.
      let w = went s (checked_before k check r s at) e in
      let v = went s (q w.first s w.mid) w.then in
      let u = went s (r s at) w.was in
      let j = settled-got at k (check (length s - u.mid) u.first) u.mid u.then in
      let q₁ : u.first ≡ w.first = same-one _ _ _ j.0 in
      let was : r s at ≡ got w.first w.mid = u.was ∙ ap₂ (λ a n. got a n) q₁ j.1 in
      let f = L.sound s hb at i w.first w.mid was tt in
      let g = (M w.first).sound s hb w.mid f.inside v.first v.mid v.was (rw (same_place v.then) z) in
      let n : length s - w.mid ≡ length (encode' w.first v.first) =
      omega (arith, length-drop w.mid s, ap length g.bytes, length-append (encode' w.first v.first) (drop v.mid s), ap (λ m. length (drop m s)) (same_place v.then), ap length z) in
      moved (Found (λ c. encode c.0 ++ encode' c.0 c.1) (λ c. Valid c.0 × (Valid' c.0 c.1 × (check (length (encode' c.0 c.1)) c.0 ≡ passes c.0))) s at) v.then
      (record {
        bytes = glue (encode w.first) (encode' w.first v.first) (drop v.mid s) f.bytes g.bytes;
        inside = g.inside;
        valid = (f.valid, (g.valid, ap₂ check (sym n ∙ ap (λ m. length s - m) (sym j.1)) (sym q₁) ∙ j.0));
      });
  complete = λ s at c rest h e i z.
      let x = encode c.0 in
      let y = encode' c.0 c.1 in
      let e' : drop at s ≡ x ++ (y ++ rest) = e ∙ append_assoc x y rest in
      let n : length s - (at + length x) ≡ length y =
      omega (arith, length-drop at s, ap length e', length-append x (y ++ rest), length-append y rest, ap length z) in
      rw (
        L.complete s at c.0 (y ++ rest) h.0 e' i tt,
        n,
        h.1.1,
        (M c.0).complete s (at + length x) c.1 rest h.1.0 (behind s at x (y ++ rest) e') (fits s at x (y ++ rest) i e') z,
        length-append x y,
        add_assoc,
      );
}

-- A DWORD with the number of bytes after it, of which there are some.
length-same : (n a b : ℕ) → check_length n a ≡ passes b → a ≡ b
length-same n a b e = (if-passes Rule.frame_length a (eqb a n) (unless-violates Rule.frame_length (pick (eqb a n) (passes a) (violates Rule.frame_length)) (eqb a 0) e).1).1

length-means : (n a : ℕ) → check_length n a ≡ passes a → (a ≡ n) × (0 < a)
length-means n a e =
    let x = unless-violates Rule.frame_length (pick (eqb a n) (passes a) (violates Rule.frame_length)) (eqb a 0) e in
    let some : a ≡ 0 → ⊥ = eqb-false a 0 x.0 in
    (eqb-true a n (if-passes Rule.frame_length a (eqb a n) x.1).0, omega arith)

pub codec-framed : {A : Type 0} {r : Decoder A} {encode : A → List ℕ} {Valid : A → Type 0} → Codec at_end r encode Valid →
    Codec at_end (decode_length >>= (λ _. r)) (λ a. dword (length (encode a)) ++ encode a) (λ a. Valid a × (Dword (length (encode a)) × (0 < length (encode a))))
unfolding decode_length
codec-framed {A} {r} {encode} L =
    same (λ s at. simp (regroup, no_more))
    (recast (λ _. refl)
    (λ a. (
      λ h. (h.1.0, (h.0, rw (ne_eqb (length (encode a)) 0 (λ z. omega (arith, h.1.1)), eq-eqb (length (encode a)) (length (encode a)) refl))),
      λ h. (h.1.0, (h.0, (length-means _ _ h.1.1).1)),
    ))
    (codec-via (λ c. c.1) (λ a. (length (encode a), a)) (λ _. refl) (λ c h. ap (λ n. (n, c.1)) (sym (length-means _ _ h.1.1).0))
    (codec-before 4 check_length length-same codec-dword (λ _. L))))

-- Bodies of one size are one thing, all others another.
pub codec-by_size : {A B : Type 0} {r : Decoder A} {q : Decoder B} {encode : A → List ℕ} {Valid : A → Type 0} {encode' : B → List ℕ} {Valid' : B → Type 0} (k : ℕ) →
    ((a : A) → Valid a → length (encode a) ≡ k) → ((b : B) → Valid' b → length (encode' b) ≡ k → ⊥) → Codec at_end r encode Valid → Codec at_end q encode' Valid' →
    Codec at_end (by_size k r q) (either encode encode') (either Valid Valid')
codec-by_size {A} {B} {r} {q} {encode} {Valid} {encode'} {Valid'} k short long L M = record {
  sound = λ s hb at i c next e z. go s hb at i c next (eqb (length s - at) k) e z;
  complete = λ s at c rest h e i z. back s at c rest h e i z;
}
  where
    go : (s : List ℕ) → Bytes s → (at : ℕ) → at ≤ length s → (c : A ⊎ B) (next : ℕ) (t : Bool) →
        pick t (r >>= (λ a. pure (inl a))) (q >>= (λ b. pure (inr b))) s at ≡ got c next → drop next s ≡ [] → Found (either encode encode') (either Valid Valid') s at c next
    go s hb at i c next true e z =
        let w = went s (r s at) e in
        let f = L.sound s hb at i w.first w.mid w.was (rw (same_place w.then) z) in
        moved (Found (either encode encode') (either Valid Valid') s at) w.then (record { bytes = f.bytes; inside = f.inside; valid = f.valid })
    go s hb at i c next false e z =
        let w = went s (q s at) e in
        let f = M.sound s hb at i w.first w.mid w.was (rw (same_place w.then) z) in
        moved (Found (either encode encode') (either Valid Valid') s at) w.then (record { bytes = f.bytes; inside = f.inside; valid = f.valid })

    size : (s : List ℕ) (at : ℕ) (x rest : List ℕ) → drop at s ≡ x ++ rest → rest ≡ [] → length s - at ≡ length x
    size s at x rest e z = omega (arith, length-drop at s, ap length e, length-append x rest, ap length z)

    back : (s : List ℕ) (at : ℕ) (c : A ⊎ B) (rest : List ℕ) → either Valid Valid' c → drop at s ≡ either encode encode' c ++ rest → at ≤ length s → rest ≡ [] →
        by_size k r q s at ≡ got c (at + length (either encode encode' c))
    back s at (inl a) rest h e i z = rw (eq-eqb (length s - at) k (size s at (encode a) rest e z ∙ short a h), L.complete s at a rest h e i z)
    back s at (inr b) rest h e i z = rw (ne_eqb (length s - at) k (λ n. long b h (sym (size s at (encode' b) rest e z) ∙ n)), M.complete s at b rest h e i z)

-- The answer to a caller.
finished : {A : Type 0} (s : List ℕ) (o : Outcome A) (a : A) → finish s o ≡ accepted a → o ≡ got a (length s)
finished s (refused n) a e = differ cc
finished {A} s (got b at) a e = go (eqb at (length s)) refl e
  where
    go : (t : Bool) → eqb at (length s) ≡ t → pick t (accepted b) (refusal (fault Rule.rest at 1)) ≡ accepted a → got b at ≡ got a (length s)
    go true q f = let p : b ≡ a = cc in ap₂ (λ x n. got x n) p (eqb-true at (length s) q)
    go false q f = differ cc

module _ {A : Type 0} {r : Decoder A} {encode : A → List ℕ} {Valid : A → Type 0} (L : Codec at_end r encode Valid) (ceiling : ℕ) where
  -- Accepted are exactly the bytes of a valid message within the ceiling, and it is that message.
  pub accepts : (s : List ℕ) → Bytes s → (a : A) → (decode_whole ceiling r s ≡ accepted a) ↔ ((s ≡ encode a) × (Valid a × (length (encode a) ≤ ceiling)))
  accepts s hb a = (λ e. go (leb (length s) ceiling) refl e, λ h. rw (le-leb (length s) ceiling (omega (arith, h.1.1, ap length h.0))) (all h))
    where
      go : (t : Bool) → leb (length s) ceiling ≡ t → pick t (finish s (r s 0)) (refusal (fault Rule.bytes_ceiling 0 (length s))) ≡ accepted a →
          (s ≡ encode a) × (Valid a × (length (encode a) ≤ ceiling))
      go false q e = differ cc
      go true q e =
          let f = L.sound s hb 0 (omega arith) a (length s) (finished s (r s 0) a e) (drop-length s) in
          let b : s ≡ encode a = f.bytes ∙ ap (λ r. encode a ++ r) (drop-length s) ∙ append-nil (encode a) in
          (b, (f.valid, omega (arith, leb-true (length s) ceiling q, ap length b)))

      all : (s ≡ encode a) × (Valid a × (length (encode a) ≤ ceiling)) → finish s (r s 0) ≡ accepted a
      all h =
          let e : r s 0 ≡ got a (0 + length (encode a)) = L.complete s 0 a [] h.1.0 (h.0 ∙ sym (append-nil (encode a))) (omega arith) refl in
          rw (e, eq-eqb (0 + length (encode a)) (length s) (omega (arith, ap length h.0)))

-- No bytes are those of two valid messages.
pub unambiguous : {A : Type 0} {r : Decoder A} {encode : A → List ℕ} {Valid : A → Type 0} → Codec at_end r encode Valid → (a b : A) → Valid a → Valid b → encode a ≡ encode b → a ≡ b
unambiguous {r = r} {encode} L a b ha hb e =
    same-value (sym (L.complete (encode a) 0 a [] ha (sym (append-nil (encode a))) (omega arith) refl) ∙ L.complete (encode a) 0 b [] hb (e ∙ sym (append-nil (encode b))) (omega arith) refl)
