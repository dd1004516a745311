-- The codec law: what ties a decoder to the bytes and the rules of what it decodes, and the law of each way to make a decoder.
use mathlib.Core.Path.{◌≡◌, refl, sym, ap, ◌∙◌, ap₂, subst, subst₂}
use mathlib.Core.Bool.{Bool, true, false}
use mathlib.Core.Option.{Option, none, some}
use mathlib.Core.Logic.{◌↔◌}
use mathlib.Core.List.{List, [], ◌∷◌, ◌++◌, append_assoc, append-nil}
use Prim.Native.Nat.{ℕ, zero, suc, ◌+◌, ◌*◌, ◌-◌, ◌/◌, ◌%◌, ◌^◌, ◌<◌, ◌≤◌}
use native.Mathlib.Omega.{arith}
use native.Mathlib.Nat.{add_assoc}
use lib.ListN.{length, take, drop, length-append, take-append-drop, length-drop}
use lib.Seq.{take_at, drop_at, length-take-le, drop-drop, drop-length}
use lib.Dec.{leb, eqb}
use borrow.Author.Tests.{le-leb, leb-true, eqb-true}
use Rattle.format.specs.Tables.{lookup, pick, table_of}
use Rattle.format.specs.Layout.{counted, encode_all, little_endian}
use Rattle.format.specs.Rules.{All, Bytes, Counted}
use Rattle.format.specs.Decoding.{Check, Decoder, Fault, Outcome, Rule, ◌>>=◌, ◌>>◌, and_then, bytes_at, checked, decode_many, decode_number, decode_run, decode_tail, fault, found, from_little_endian, got, passes, pure, refused, settled, violates}
use Rattle.format.specs.Order.{decode_byte, decode_code, decode_counted, decode_dword, decode_word}
use Rattle.format.proofs.Differ.{differ}

-- An item may stand anywhere, or only at the end of the bytes.
pub data Place : Type 0 where
  anywhere at_end : Place

abbrev pub Behind : Place → List ℕ → Type 0
Behind anywhere rest = Unit {0}
Behind at_end rest = rest ≡ []

pub record Found {A : Type 0} (encode : A → List ℕ) (Valid : A → Type 0) (s : List ℕ) (at : ℕ) (a : A) (next : ℕ) : Type 0 where
  pub bytes : drop at s ≡ encode a ++ drop next s
  pub inside : next ≤ length s
  pub valid : Valid a

pub record Codec {A : Type 0} (p : Place) (r : Decoder A) (encode : A → List ℕ) (Valid : A → Type 0) : Type 0 where
  pub sound : (s : List ℕ) → Bytes s → (at : ℕ) → at ≤ length s → (a : A) (next : ℕ) → r s at ≡ got a next → Behind p (drop next s) → Found encode Valid s at a next
  pub complete : (s : List ℕ) (at : ℕ) (a : A) (rest : List ℕ) → Valid a → drop at s ≡ encode a ++ rest → at ≤ length s → Behind p rest →
      r s at ≡ got a (at + length (encode a))

-- Helpers on outcomes.
module _ {A : Type 0} where
  pub never : {f : Fault} {a : A} {r : ℕ} → refused f ≡ got a r → ⊥
  never e = differ cc

  pub same-value : {a b : A} {r s : ℕ} → got a r ≡ got b s → a ≡ b
  same-value e = cc

  pub same_place : {a b : A} {r s : ℕ} → got a r ≡ got b s → r ≡ s
  same_place e = cc

  pub moved : (P : A → ℕ → Type 0) {a b : A} {r s : ℕ} → got a r ≡ got b s → P a r → P b s
  moved P e h = subst₂ P (same-value e) (same_place e) h

pub record Went {A B : Type 0} (s : List ℕ) (o : Outcome A) (f : A → Decoder B) (b : B) (next : ℕ) : Type 0 where
  pub first : A
  pub mid : ℕ
  pub was : o ≡ got first mid
  pub then : f first s mid ≡ got b next

pub went : {A B : Type 0} (s : List ℕ) (o : Outcome A) {f : A → Decoder B} {b : B} {next : ℕ} → and_then s o f ≡ got b next → Went s o f b next
went s (refused n) e = absurd (never e)
went s (got a mid) e = record { first = a; mid = mid; was = refl; then = e }

pub bytes-right : (l r : List ℕ) → Bytes (l ++ r) → Bytes r
bytes-right [] r h = h
bytes-right (b ∷ l) r h = bytes-right l r h.1

pub bytes_left : (l r : List ℕ) → Bytes (l ++ r) → Bytes l
bytes_left [] r h = tt
bytes_left (b ∷ l) r h = (h.0, bytes_left l r h.1)

pub bytes-append : (k l : List ℕ) → Bytes k → Bytes l → Bytes (k ++ l)
bytes-append [] l hk hl = hl
bytes-append (b ∷ k) l hk hl = (hk.0, bytes-append k l hk.1 hl)

pub bytes_drop : (at : ℕ) (s : List ℕ) → Bytes s → Bytes (drop at s)
bytes_drop at s hb = bytes-right (take at s) (drop at s) (rw take-append-drop hb)

pub bytes-part : (s : List ℕ) → Bytes s → (at n : ℕ) → Bytes (bytes_at s at n)
bytes-part s hb at n = bytes_left (take n (drop at s)) (drop n (drop at s)) (rw take-append-drop (bytes_drop at s hb))

pub glue : (x y rest : List ℕ) {bs mid : List ℕ} → bs ≡ x ++ mid → mid ≡ y ++ rest → bs ≡ (x ++ y) ++ rest
glue x y rest p q = p ∙ ap (λ r. x ++ r) q ∙ sym (append_assoc x y rest)

-- What stands after some bytes.
pub behind : (s : List ℕ) (at : ℕ) (x y : List ℕ) → drop at s ≡ x ++ y → drop (at + length x) s ≡ y
behind s at x y e = sym (drop-drop (length x) at s) ∙ ap (drop (length x)) e ∙ drop_at x y (length x) refl

pub fits : (s : List ℕ) (at : ℕ) (x y : List ℕ) → at ≤ length s → drop at s ≡ x ++ y → at + length x ≤ length s
fits s at x y h e = omega (arith, length-drop at s, ap length e, length-append x y)

-- An item that may stand anywhere may stand at the end.
pub here : {p : Place} {A : Type 0} {r : Decoder A} {encode : A → List ℕ} {Valid : A → Type 0} → Codec anywhere r encode Valid → Codec p r encode Valid
here L = record { sound = λ s hb at i a next e b. L.sound s hb at i a next e tt; complete = λ s at a rest h e i b. L.complete s at a rest h e i tt }

-- A run of bytes.
run_sound : (k : ℕ) (s : List ℕ) → Bytes s → (at : ℕ) (l : List ℕ) (next : ℕ) (t : Bool) → leb (at + k) (length s) ≡ t →
    pick t (got (bytes_at s at k) (at + k)) (refused (fault Rule.short at k)) ≡ got l next → Found (λ l. l) (λ l. (length l ≡ k) × Bytes l) s at l next
run_sound k s hb at l next false t e = absurd (never e)
run_sound k s hb at l next true t e =
    let h : at + k ≤ length s = leb-true (at + k) (length s) t in
    let hd : Bytes (drop at s) = bytes_drop at s hb in
    moved (Found (λ l. l) (λ l. (length l ≡ k) × Bytes l) s at) e (record {
      bytes = sym (ap (λ r. take k (drop at s) ++ r) (sym (drop-drop k at s)) ∙ take-append-drop k (drop at s));
      inside = h;
      valid = (length-take-le k (drop at s) (omega (arith, length-drop at s)), bytes_left (take k (drop at s)) (drop k (drop at s)) (rw take-append-drop hd));
    })

pub codec-run : {p : Place} (k : ℕ) → Codec p (decode_run k) (λ l. l) (λ l. (length l ≡ k) × Bytes l)
unfolding decode_run
codec-run k = record {
  sound = λ s hb at h l next e b. run_sound k s hb at l next (leb (at + k) (length s)) refl e;
  complete = λ s at l rest h e i b.
      rw (le-leb (at + k) (length s) (omega (arith, fits s at l rest i e, h.0)), e, take_at l rest k h.0, h.0);
}

pub codec-tail : Codec at_end decode_tail (λ l. l) Bytes
unfolding decode_tail
codec-tail = record {
  sound = λ s hb at i l next e b.
      moved (Found (λ l. l) Bytes s at) e (record { bytes = rw (drop-length s, append-nil) refl; inside = omega arith; valid = bytes_drop at s hb });
  complete = λ s at l rest h e i b.
      let d : drop at s ≡ l = e ∙ ap (λ r. l ++ r) b ∙ append-nil l in
      ap₂ (λ l n. got l n) d (omega (arith, length-drop at s, ap length d));
}

-- Nothing.
pub codec-pure : {p : Place} → Codec {A = Unit {0}} p (pure (tt {0})) (λ _. []) (λ _. Unit {0})
codec-pure = record {
  sound = λ s hb at i a next e b. record { bytes = ap (λ n. drop n s) (same_place e); inside = subst (λ n. n ≤ length s) (same_place e) i; valid = tt };
  complete = λ s at a rest h e i b. ap (λ n. got tt n) (omega arith);
}

-- One after the other; the second may depend on the first.
pub codec-after : {p : Place} {A : Type 0} {B : A → Type 0} {r : Decoder A} {q : (a : A) → Decoder (B a)} {encode : A → List ℕ} {Valid : A → Type 0}
    {encode' : (a : A) → B a → List ℕ} {Valid' : (a : A) → B a → Type 0} → Codec anywhere r encode Valid → ((a : A) → Codec p (q a) (encode' a) (Valid' a)) →
    Codec {A = (a : A) × B a} p (r >>= (λ a. q a >>= (λ b. pure (a, b)))) (λ c. encode c.0 ++ encode' c.0 c.1) (λ c. Valid c.0 × Valid' c.0 c.1)
codec-after {r = r} {q} {encode} {Valid} {encode'} {Valid'} L M = record {
  sound = λ s hb at i c next e b.
      let w = went s (r s at) e in
      let v = went s (q w.first s w.mid) w.then in
      let f = L.sound s hb at i w.first w.mid w.was tt in
      let g = (M w.first).sound s hb w.mid f.inside v.first v.mid v.was (rw (same_place v.then) b) in
      moved (Found (λ c. encode c.0 ++ encode' c.0 c.1) (λ c. Valid c.0 × Valid' c.0 c.1) s at) v.then
      (record { bytes = glue (encode w.first) (encode' w.first v.first) (drop v.mid s) f.bytes g.bytes; inside = g.inside; valid = (f.valid, g.valid) });
  complete = λ s at c rest h e i b.
      let x = encode c.0 in
      let y = encode' c.0 c.1 in
      let e' : drop at s ≡ x ++ (y ++ rest) = e ∙ append_assoc x y rest in
      rw (
        L.complete s at c.0 (y ++ rest) h.0 e' i tt,
        (M c.0).complete s (at + length x) c.1 rest h.1 (behind s at x (y ++ rest) e') (fits s at x (y ++ rest) i e') b,
        length-append x y,
        add_assoc,
      );
}

pub codec-pair : {p : Place} {A B : Type 0} {r : Decoder A} {q : Decoder B} {encode : A → List ℕ} {Valid : A → Type 0}
    {encode' : B → List ℕ} {Valid' : B → Type 0} → Codec anywhere r encode Valid → Codec p q encode' Valid' →
    Codec {A = A × B} p (r >>= (λ a. q >>= (λ b. pure (a, b)))) (λ c. encode c.0 ++ encode' c.1) (λ c. Valid c.0 × Valid' c.1)
codec-pair L M = codec-after L (λ _. M)

-- An item that is checked: each value that passes stands for one that was decoded.
pub codec-checked : {p : Place} {A B : Type 0} {r : Decoder A} {encode : A → List ℕ} {Valid : A → Type 0} (k : ℕ) (check : A → Check B) (from : B → A) (Valid' : B → Type 0) →
    ((a : A) (b : B) → Valid a → check a ≡ passes b → (from b ≡ a) × Valid' b) → ((b : B) → Valid' b → Valid (from b) × (check (from b) ≡ passes b)) →
    Codec p r encode Valid → Codec p (checked k check r) (λ b. encode (from b)) Valid'
codec-checked {p} {A} {B} {r} {encode} {Valid} k check from Valid' there back L = record {
  sound = λ s hb at i b next e z.
      let w = went s (r s at) e in
      go s hb at i b next w.first w.mid w.was (check w.first) refl w.then z;
  complete = λ s at b rest h e i z. rw (L.complete s at (from b) rest (back b h).0 e i z, (back b h).1);
}
  where
    go : (s : List ℕ) → Bytes s → (at : ℕ) → at ≤ length s → (b : B) (next : ℕ) (a : A) (mid : ℕ) → r s at ≡ got a mid → (v : Check B) → check a ≡ v →
        settled at k v mid ≡ got b next → Behind p (drop next s) → Found (λ b. encode (from b)) Valid' s at b next
    go s hb at i b next a mid was (violates rule) q e z = absurd (never e)
    go s hb at i b next a mid was (passes c) q e z =
        let f = L.sound s hb at i a mid was (rw (same_place e) z) in
        let t = there a c f.valid q in
        moved (Found (λ b. encode (from b)) Valid' s at) e (record { bytes = rw t.0 f.bytes; inside = f.inside; valid = t.1 })

-- The same bytes, the value in another form.
pub codec-via : {p : Place} {A B : Type 0} {r : Decoder A} {encode : A → List ℕ} {Valid : A → Type 0} (to : A → B) (from : B → A) →
    ((b : B) → to (from b) ≡ b) → ((a : A) → Valid a → from (to a) ≡ a) → Codec p r encode Valid →
    Codec p (r >>= (λ a. pure (to a))) (λ b. encode (from b)) (λ b. Valid (from b))
codec-via {r = r} {encode} {Valid} to from there back L = record {
  sound = λ s hb at i b next e z.
      let w = went s (r s at) e in
      let f = L.sound s hb at i w.first w.mid w.was (rw (same_place w.then) z) in
      let t : from (to w.first) ≡ w.first = back w.first f.valid in
      moved (Found (λ b. encode (from b)) (λ b. Valid (from b)) s at) w.then (record { bytes = rw t f.bytes; inside = f.inside; valid = rw t f.valid });
  complete = λ s at b rest h e i z. rw (L.complete s at (from b) rest h e i z, there b);
}

-- The same decoder, bytes and rules in other words.
pub regroup : {A B C : Type 0} (s : List ℕ) (o : Outcome A) (f : A → Decoder B) (g : B → Decoder C) → and_then s (and_then s o f) g ≡ and_then s o (λ a s at. and_then s (f a s at) g)
regroup s (refused n) f g = refl
regroup s (got a at) f g = refl

pub no_more : {A : Type 0} (s : List ℕ) (o : Outcome A) → and_then s o (λ a. pure a) ≡ o
no_more s (refused n) = refl
no_more s (got a at) = refl

pub and_then-same : {A B : Type 0} (s : List ℕ) (o : Outcome A) (f g : A → Decoder B) → ((a : A) (at : ℕ) → f a s at ≡ g a s at) → and_then s o f ≡ and_then s o g
and_then-same s (refused n) f g h = refl
and_then-same s (got a at) f g h = h a at

pub same : {p : Place} {A : Type 0} {r q : Decoder A} {encode : A → List ℕ} {Valid : A → Type 0} → ((s : List ℕ) (at : ℕ) → q s at ≡ r s at) → Codec p r encode Valid → Codec p q encode Valid
same {q = q} reads L = record {
  sound = λ s hb at i a next e z. L.sound s hb at i a next (sym (reads s at) ∙ e) z;
  complete = λ s at a rest h e i z. reads s at ∙ L.complete s at a rest h e i z;
}

pub recast : {p : Place} {A : Type 0} {r : Decoder A} {encode encode' : A → List ℕ} {Valid Valid' : A → Type 0} → ((a : A) → encode' a ≡ encode a) → ((a : A) → Valid' a ↔ Valid a) →
    Codec p r encode Valid → Codec p r encode' Valid'
recast {encode = encode} {encode'} bytes rules L = record {
  sound = λ s hb at i a next e z.
      let f = L.sound s hb at i a next e z in
      record { bytes = rw (bytes a) f.bytes; inside = f.inside; valid = (rules a).1 f.valid };
  complete = λ s at a rest h e i z. rw (bytes a) (L.complete s at a rest ((rules a).0 h) (rw (bytes a) at e) i z);
}

-- A count, then that many bytes.
pub codec-counted-bytes : {p : Place} {r : Decoder ℕ} {encode : ℕ → List ℕ} {Valid : ℕ → Type 0} → Codec anywhere r encode Valid →
    Codec p (r >>= (λ n. decode_run n)) (λ l. encode (length l) ++ l) (λ l. Valid (length l) × Bytes l)
codec-counted-bytes {p} {r} {encode} {Valid} C = record {
  sound = λ s hb at i l next e z.
      let w = went s (r s at) e in
      let f = C.sound s hb at i w.first w.mid w.was tt in
      let g = (codec-run {p = p} w.first).sound s hb w.mid f.inside l next w.then z in
      record { bytes = glue (encode (length l)) l (drop next s) (rw g.valid.0 f.bytes) g.bytes; inside = g.inside; valid = (rw g.valid.0 f.valid, g.valid.1) };
  complete = λ s at l rest h e i z.
      let x = encode (length l) in
      let e' : drop at s ≡ x ++ (l ++ rest) = e ∙ append_assoc x l rest in
      rw (
        C.complete s at (length l) (l ++ rest) h.0 e' i tt,
        (codec-run {p = p} (length l)).complete s (at + length x) l rest (refl, h.1) (behind s at x (l ++ rest) e') (fits s at x (l ++ rest) i e') z,
        length-append x l,
        add_assoc,
      );
}

-- A count, then that many items.
many-sound : {A : Type 0} {r : Decoder A} {encode : A → List ℕ} {Valid : A → Type 0} → Codec anywhere r encode Valid → (n : ℕ) (s : List ℕ) → Bytes s → (at : ℕ) → at ≤ length s →
    (vs : List A) (next : ℕ) → decode_many n r s at ≡ got vs next → Found (encode_all encode) (λ vs. (length vs ≡ n) × All Valid vs) s at vs next
many-sound {encode = encode} {Valid} L zero s hb at i vs next e =
    moved (Found (encode_all encode) (λ vs. (length vs ≡ 0) × All Valid vs) s at) e (record { bytes = refl; inside = i; valid = (refl, tt) })
many-sound {r = r} {encode} {Valid} L (suc n) s hb at i vs next e =
    let w = went s (r s at) e in
    let v = went s (decode_many n r s w.mid) w.then in
    let f = L.sound s hb at i w.first w.mid w.was tt in
    let g = many-sound L n s hb w.mid f.inside v.first v.mid v.was in
    moved (Found (encode_all encode) (λ vs. (length vs ≡ suc n) × All Valid vs) s at) v.then
    (record { bytes = glue (encode w.first) (encode_all encode v.first) (drop v.mid s) f.bytes g.bytes; inside = g.inside; valid = (ap suc g.valid.0, (f.valid, g.valid.1)) })

many-complete : {A : Type 0} {r : Decoder A} {encode : A → List ℕ} {Valid : A → Type 0} → Codec anywhere r encode Valid → (vs : List A) (s : List ℕ) (at : ℕ) (rest : List ℕ) → All Valid vs →
    drop at s ≡ encode_all encode vs ++ rest → at ≤ length s → decode_many (length vs) r s at ≡ got vs (at + length (encode_all encode vs))
many-complete L [] s at rest h e i = ap (λ n. got [] n) (omega arith)
many-complete {encode = encode} L (a ∷ vs) s at rest h e i =
    let x = encode a in
    let y = encode_all encode vs in
    let e' : drop at s ≡ x ++ (y ++ rest) = e ∙ append_assoc x y rest in
    rw (
      L.complete s at a (y ++ rest) h.0 e' i tt,
      many-complete L vs s (at + length x) rest h.1 (behind s at x (y ++ rest) e') (fits s at x (y ++ rest) i e'),
      length-append x y,
      add_assoc,
    )

pub codec-counted : {p : Place} {A : Type 0} {c : Decoder ℕ} {count : ℕ → List ℕ} {Count : ℕ → Type 0} {r : Decoder A} {encode : A → List ℕ} {Valid : A → Type 0} →
    Codec anywhere c count Count → Codec anywhere r encode Valid → Codec p (decode_counted c r) (counted count encode) (Counted Count Valid)
unfolding decode_counted
codec-counted {c = c} {count} {Count} {r} {encode} {Valid} C L = record {
  sound = λ s hb at i vs next e z.
      let w = went s (c s at) e in
      let f = C.sound s hb at i w.first w.mid w.was tt in
      let g = many-sound L w.first s hb w.mid f.inside vs next w.then in
      record { bytes = glue (count (length vs)) (encode_all encode vs) (drop next s) (rw g.valid.0 f.bytes) g.bytes; inside = g.inside; valid = (rw g.valid.0 f.valid, g.valid.1) };
  complete = λ s at vs rest h e i z.
      let x = count (length vs) in
      let y = encode_all encode vs in
      let e' : drop at s ≡ x ++ (y ++ rest) = e ∙ append_assoc x y rest in
      rw (
        C.complete s at (length vs) (y ++ rest) h.0 e' i tt,
        many-complete L vs s (at + length x) rest h.1 (behind s at x (y ++ rest) e') (fits s at x (y ++ rest) i e'),
        length-append x y,
        add_assoc,
      );
}

-- So many items as are known before.
pub codec-many : {p : Place} {A : Type 0} (n : ℕ) {r : Decoder A} {encode : A → List ℕ} {Valid : A → Type 0} → Codec anywhere r encode Valid →
    Codec p (decode_many n r) (encode_all encode) (λ vs. (length vs ≡ n) × All Valid vs)
codec-many n {r} {encode} L = record {
  sound = λ s hb at i vs next e z. many-sound L n s hb at i vs next e;
  complete = λ s at vs rest h e i z. subst (λ n. decode_many n r s at ≡ got vs (at + length (encode_all encode vs))) h.0 (many-complete L vs s at rest h.1 e i);
}

-- Numbers, low byte first.
pub length-little_endian : (k n : ℕ) → length (little_endian k n) ≡ k
unfolding little_endian
length-little_endian zero n = refl
length-little_endian (suc k) n = ap suc (length-little_endian k _)

pub bytes-little_endian : (k n : ℕ) → Bytes (little_endian k n)
unfolding little_endian
bytes-little_endian zero n = tt
bytes-little_endian (suc k) n = (omega arith, bytes-little_endian k _)

next_power : (b v k : ℕ) → b < 256 → v < 256 ^ k → b + 256 * v < 256 ^ suc k
next_power b v k hb hv = omega arith

number_bound : (l : List ℕ) → Bytes l → from_little_endian l < 256 ^ length l
unfolding from_little_endian
number_bound [] h = omega arith
number_bound (b ∷ l) h = next_power b (from_little_endian l) (length l) h.0 (number_bound l h.1)

encode-number : (l : List ℕ) → Bytes l → little_endian (length l) (from_little_endian l) ≡ l
unfolding little_endian from_little_endian
encode-number [] h = refl
encode-number (b ∷ l) h =
    let m : (b + 256 * from_little_endian l) % 256 ≡ b = omega (arith, h.0) in
    let d : (b + 256 * from_little_endian l) / 256 ≡ from_little_endian l = omega (arith, h.0) in
    rw (m, d, encode-number l h.1)

number-encode : (k n : ℕ) → n < 256 ^ k → from_little_endian (little_endian k n) ≡ n
unfolding little_endian from_little_endian
number-encode zero n h = omega arith
number-encode (suc k) n h = rw (number-encode k (n / 256) (omega arith)) (omega arith)

pub codec-number : {p : Place} (k : ℕ) → Codec p (decode_number k) (little_endian k) (λ n. n < 256 ^ k)
codec-number {p} k = record {
  sound = λ s hb at i n next e z.
      let w = went s (decode_run k s at) e in
      let f = (codec-run {p = anywhere} k).sound s hb at i w.first w.mid w.was tt in
      let lv : little_endian k (from_little_endian w.first) ≡ w.first = rw f.valid.0 at (encode-number w.first f.valid.1) in
      let lt : from_little_endian w.first < 256 ^ k = rw f.valid.0 at (number_bound w.first f.valid.1) in
      moved (Found (little_endian k) (λ n. n < 256 ^ k) s at) w.then (record { bytes = rw lv f.bytes; inside = f.inside; valid = lt });
  complete = λ s at n rest h e i z. rw ((codec-run {p = p} k).complete s at (little_endian k n) rest (length-little_endian k n, bytes-little_endian k n) e i z, number-encode k n h);
}

pub codec-byte : {p : Place} → Codec p decode_byte (little_endian 1) (λ n. n < 256)
unfolding decode_byte
codec-byte = codec-number 1

pub codec-word : {p : Place} → Codec p decode_word (little_endian 2) (λ n. n < 65536)
unfolding decode_word
codec-word = codec-number 2

pub codec-dword : {p : Place} → Codec p decode_dword (little_endian 4) (λ n. n < 4294967296)
unfolding decode_dword
codec-dword = codec-number 4

-- A table that lists each thing under its code.
pub lookup-code : {K : Type 0} (code : K → ℕ) (all : List K) (n : ℕ) (k : K) → lookup (table_of code all) n ≡ some k → code k ≡ n
lookup-code code [] n k e = differ cc
lookup-code {K} code (a ∷ all) n k e = go (eqb n (code a)) refl e (λ f. lookup-code code all n k f)
  where
    go : (b : Bool) → eqb n (code a) ≡ b → pick b (some a) (lookup (table_of code all) n) ≡ some k → (lookup (table_of code all) n ≡ some k → code k ≡ n) → code k ≡ n
    go true q f _ = let s : a ≡ k = cc in ap code (sym s) ∙ sym (eqb-true n (code a) q)
    go false q f later = later f

pub found-passes : {K : Type 0} (rule : Rule) (o : Option K) {k : K} → found rule o ≡ passes k → o ≡ some k
found-passes rule none e = cc
found-passes rule (some k) e = cc

pub codec-listed : {p : Place} {K : Type 0} (rule : Rule) (code : K → ℕ) (all : List K) → ((k : K) → (lookup (table_of code all) (code k) ≡ some k) × (code k < 256)) →
    Codec p (checked 1 (λ b. found rule (lookup (table_of code all) b)) decode_byte) (λ k. little_endian 1 (code k)) (λ _. Unit {0})
codec-listed rule code all there =
    codec-checked 1 (λ b. found rule (lookup (table_of code all) b)) code (λ _. Unit {0})
    (λ b k h e. (lookup-code code all b k (found-passes rule (lookup (table_of code all) b) e), tt))
    (λ k h. ((there k).1, rw (there k).0)) codec-byte

pub codec-table : {p : Place} {K : Type 0} (code : K → ℕ) (all : List K) → ((k : K) → (lookup (table_of code all) (code k) ≡ some k) × (code k < 256)) →
    Codec p (decode_code (table_of code all)) (λ k. little_endian 1 (code k)) (λ _. Unit {0})
unfolding decode_code
codec-table code all there = codec-listed Rule.choice code all there

-- Tests of a check.
pub if-passes : {A : Type 0} (rule : Rule) {b : A} (a : A) (t : Bool) → pick t (passes a) (violates rule) ≡ passes b → (t ≡ true) × (a ≡ b)
if-passes rule a true e = (refl, cc)
if-passes rule a false e = differ cc

pub unless-violates : {A : Type 0} (rule : Rule) {b : A} (v : Check A) (t : Bool) → pick t (violates rule) v ≡ passes b → (t ≡ false) × (v ≡ passes b)
unless-violates rule v true e = differ cc
unless-violates rule v false e = (refl, e)

pub if-violates : {A : Type 0} (rule : Rule) {b : A} (v : Check A) (t : Bool) → pick t v (violates rule) ≡ passes b → (t ≡ true) × (v ≡ passes b)
if-violates rule v true e = (refl, e)
if-violates rule v false e = differ cc

-- The same bytes, the value in another form, where the rules make the two forms one.
pub codec-map : {p : Place} {A B : Type 0} {r : Decoder A} {encode : A → List ℕ} {Valid : A → Type 0} (to : A → B) (from : B → A) (Valid' : B → Type 0) →
    ((a : A) → Valid a → (from (to a) ≡ a) × Valid' (to a)) → ((b : B) → Valid' b → Valid (from b) × (to (from b) ≡ b)) → Codec p r encode Valid →
    Codec p (r >>= (λ a. pure (to a))) (λ b. encode (from b)) Valid'
codec-map {r = r} {encode} to from Valid' there back L = record {
  sound = λ s hb at i b next e z.
      let w = went s (r s at) e in
      let f = L.sound s hb at i w.first w.mid w.was (rw (same_place w.then) z) in
      let t = there w.first f.valid in
      moved (Found (λ b. encode (from b)) Valid' s at) w.then (record { bytes = rw t.0 f.bytes; inside = f.inside; valid = t.1 });
  complete = λ s at b rest h e i z. rw (L.complete s at (from b) rest (back b h).0 e i z, (back b h).1);
}

-- A code, and then what it announces.
after-via : {A C : Type 0} {B : A → Type 0} (s : List ℕ) (o : Outcome A) (q : (a : A) → Decoder (B a)) (to : (a : A) → B a → C) →
    and_then s (and_then s o (λ a s at. and_then s (q a s at) (λ b. pure {A = (a : A) × B a} (a, b)))) (λ c. pure (to c.0 c.1)) ≡ and_then s o (λ a s at. and_then s (q a s at) (λ b. pure (to a b)))
after-via s (refused n) q to = refl
after-via s (got a at) q to = regroup s (q a s at) _ _

pub codec-cases : {p : Place} {K C : Type 0} {P : K → Type 0} {r : Decoder K} {q : K → Decoder C} {t : (k : K) → Decoder (P k)} {encode : K → List ℕ} {Valid : K → Type 0}
    {encode' : (k : K) → P k → List ℕ} {Valid' : (k : K) → P k → Type 0} (to : (k : K) → P k → C) (from : C → (k : K) × P k) →
    ((c : C) → to (from c).0 (from c).1 ≡ c) → ((k : K) (v : P k) → from (to k v) ≡ (k, v)) →
    ((k : K) (s : List ℕ) (at : ℕ) → q k s at ≡ and_then s (t k s at) (λ v. pure (to k v))) →
    Codec anywhere r encode Valid → ((k : K) → Codec p (t k) (encode' k) (Valid' k)) →
    Codec p (r >>= q) (λ c. encode (from c).0 ++ encode' (from c).0 (from c).1) (λ c. Valid (from c).0 × Valid' (from c).0 (from c).1)
codec-cases {r = r} {q} {t} to from there back reads L M =
    same (λ s at. and_then-same s (r s at) q (λ k s at. and_then s (t k s at) (λ v. pure (to k v))) (λ k at. reads k s at) ∙ sym (after-via s (r s at) t to))
    (codec-via (λ c. to c.0 c.1) from there (λ c _. back c.0 c.1) (codec-after L M))

-- The same, where the rules make the two forms one.
pub codec-cases_valid : {p : Place} {K C : Type 0} {P : K → Type 0} {r : Decoder K} {q : K → Decoder C} {t : (k : K) → Decoder (P k)} {encode : K → List ℕ} {Valid : K → Type 0}
    {encode' : (k : K) → P k → List ℕ} {Valid' : (k : K) → P k → Type 0} (to : (k : K) → P k → C) (from : C → (k : K) × P k) (Valid'' : C → Type 0) →
    ((c : (k : K) × P k) → Valid c.0 × Valid' c.0 c.1 → (from (to c.0 c.1) ≡ c) × Valid'' (to c.0 c.1)) →
    ((c : C) → Valid'' c → (Valid (from c).0 × Valid' (from c).0 (from c).1) × (to (from c).0 (from c).1 ≡ c)) →
    ((k : K) (s : List ℕ) (at : ℕ) → q k s at ≡ and_then s (t k s at) (λ v. pure (to k v))) →
    Codec anywhere r encode Valid → ((k : K) → Codec p (t k) (encode' k) (Valid' k)) →
    Codec p (r >>= q) (λ c. encode (from c).0 ++ encode' (from c).0 (from c).1) Valid''
codec-cases_valid {r = r} {q} {t} to from Valid'' there back reads L M =
    same (λ s at. and_then-same s (r s at) q (λ k s at. and_then s (t k s at) (λ v. pure (to k v))) (λ k at. reads k s at) ∙ sym (after-via s (r s at) t to))
    (codec-map (λ c. to c.0 c.1) from Valid'' there back (codec-after L M))

pub settled-got : {A : Type 0} (at k : ℕ) (v : Check A) (mid : ℕ) {a : A} {next : ℕ} → settled at k v mid ≡ got a next → (v ≡ passes a) × (mid ≡ next)
settled-got at k (passes a) mid e = (ap passes (same-value e), same_place e)
settled-got at k (violates rule) mid e = absurd (never e)

-- What a known code announces, together with the code.
pub codec-labelled : {p : Place} {K : Type 0} {P : K → Type 0} {r : (k : K) → Decoder (P k)} {encode' : (k : K) → P k → List ℕ} {Valid' : (k : K) → P k → Type 0} →
    ((k : K) → Codec p (r k) (encode' k) (Valid' k)) → (k : K) →
    Codec {A = (k : K) × P k} p (r k >>= (λ v. pure (k, v))) (λ c. encode' c.0 c.1) (λ c. (c.0 ≡ k) × Valid' c.0 c.1)
codec-labelled {p} {K} {P} {r} {encode'} {Valid'} L k = record {
  sound = λ s hb at i c next e z.
      let w = went s (r k s at) e in
      let f = (L k).sound s hb at i w.first w.mid w.was (rw (same_place w.then) z) in
      moved (Found (λ c. encode' c.0 c.1) (λ c. (c.0 ≡ k) × Valid' c.0 c.1) s at) w.then (record { bytes = f.bytes; inside = f.inside; valid = (refl, f.valid) });
  complete = λ s at c rest h e i z.
      subst (λ k. and_then s (r k s at) (λ v. pure {A = (k : K) × P k} (k, v)) ≡ got c (at + length (encode' c.0 c.1))) h.0
      (rw ((L c.0).complete s at c.1 rest h.1 e i z));
}
