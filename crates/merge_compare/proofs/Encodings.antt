-- By the codec law, what was decoded is encoded by the bytes that lie there, and valid values are told apart by their bytes.
use Prim.Native.Nat.{ℕ, zero, suc, ◌+◌, ◌-◌, ◌≤◌}
use mathlib.Core.Path.{◌≡◌, refl, sym, ap, ap₂, ◌∙◌}
use mathlib.Core.List.{List, [], ◌∷◌, ◌++◌}
use native.Mathlib.Omega.{arith}
use lib.ListN.{length, drop, length-append, length-drop}
use lib.Seq.{drop_at, take_at}
use Rattle.format.specs.Messages.{Tag}
use Rattle.format.specs.Layout.{encode_all, encode_hash, encode_tag}
use Rattle.format.specs.Rules.{All, Bytes, ValidHash, ValidTag}
use Rattle.format.specs.Decoding.{Decoder, bytes_at, decode_many, got}
use Rattle.format.specs.Order.{decode_hash}
use Rattle.format.proofs.Codec.{Codec, anywhere, codec-many, same_place, same-value, went}
use Rattle.format.proofs.Items.{codec-hash, codec-tag}
use Rattle.format.proofs.Many.{ends-items}
use Rattle.format.proofs.Regapped.{tags-few}
use Rattle.format.proofs.There.{run-was}
use Rattle.wire.specs.declared.Items.{Items}
use Rattle.wire.specs.WireAnswers.{ItemsInside, items_in}

-- A value lies from one offset up to another.
pub record Lies {A : Type 0} (encode : A → List ℕ) (Valid : A → Type 0) (s : List ℕ) (at next : ℕ) (a : A) : Type 0 where
  pub order : at ≤ next
  pub bytes : bytes_at s at (next - at) ≡ encode a
  pub valid : Valid a

module _ {A : Type 0} {r : Decoder A} {encode : A → List ℕ} {Valid : A → Type 0} (L : Codec anywhere r encode Valid) where
  pub lies : (s : List ℕ) → Bytes s → (at : ℕ) → at ≤ length s → {a : A} {next : ℕ} → r s at ≡ got a next → Lies encode Valid s at next a
  lies s bytes at inside {a} {next} e =
      let f = L.sound s bytes at inside a next e tt in
      let ends : next ≡ at + length (encode a) =
      omega (arith, f.inside, ap length f.bytes, length-append (encode a) (drop next s), length-drop at s, length-drop next s) in
      record { order = omega arith; bytes = rw f.bytes (take_at (encode a) (drop next s) (next - at) (omega arith)); valid = f.valid }

  pub same_first : {a b : A} {x y : List ℕ} → Valid a → Valid b → encode a ++ x ≡ encode b ++ y → (a ≡ b) × (x ≡ y)
  same_first {a} {b} {x} {y} v w e =
      let s = encode a ++ x in
      let read : got a (0 + length (encode a)) ≡ got b (0 + length (encode b)) =
      sym (L.complete s 0 a x v refl (omega arith) tt) ∙ L.complete s 0 b y w e (omega arith) tt in
      let n = length (encode a) in
      (same-value read, sym (drop_at (encode a) x n refl) ∙ ap (drop n) e ∙ drop_at (encode b) y n (omega (arith, same_place read)))

  pub same-value-of : {a b : A} → Valid a → Valid b → encode a ≡ encode b → a ≡ b
  same-value-of v w e = (same_first v w (ap (λ l. l ++ []) e)).0

  -- and so are lists, where each value has a byte
  module _ (some : (a : A) → Valid a → 1 ≤ length (encode a)) where
    same-all : (k l : List A) → All Valid k → All Valid l → encode_all encode k ≡ encode_all encode l → k ≡ l
    same-all [] [] v w e = refl
    same-all [] (b ∷ l) v w e = absurd (omega (arith, some b w.0, ap length e, length-append (encode b) (encode_all encode l)))
    same-all (a ∷ k) [] v w e = absurd (omega (arith, some a v.0, ap length e, length-append (encode a) (encode_all encode k)))
    same-all (a ∷ k) (b ∷ l) v w e =
        let first = same_first v.0 w.0 e in
        ap₂ (λ a l. a ∷ l) first.0 (same-all k l v.1 w.1 first.1)

some_bytes : (t : Tag) → 1 ≤ length (encode_tag t)
some_bytes t = omega (arith, tags-few (t ∷ []), length-append (encode_tag t) [])

pub same-tag-lists : (k l : List Tag) → All ValidTag k → All ValidTag l → encode_all encode_tag k ≡ encode_all encode_tag l → k ≡ l
same-tag-lists = same-all codec-tag (λ t _. some_bytes t)

pub same-hash-lists : (k l : List (List ℕ)) → All ValidHash k → All ValidHash l → encode_all encode_hash k ≡ encode_all encode_hash l → k ≡ l
same-hash-lists = same-all codec-hash (λ h v. omega (arith, v.0))

-- A list of hashes that lies inside the bytes.
hashes-start : (s : List ℕ) (n at : ℕ) {l : List (List ℕ)} {end : ℕ} → decode_many n decode_hash s at ≡ got l end → end ≤ length s → at ≤ length s
unfolding decode_hash
hashes-start s zero at e h = omega (arith, same_place e)
hashes-start s (suc n) at e h = let w = went s (decode_hash s at) e in omega (arith, (run-was s at 16 w.was).0)

pub hashes-lie : (s : List ℕ) → Bytes s → (l : Items) → ItemsInside decode_hash s l →
    Lies (encode_all encode_hash) (λ k. (length k ≡ l.count) × All ValidHash k) s l.at l.end (items_in decode_hash s l)
hashes-lie s bytes l h =
    let read = sym (ends-items (decode_many l.count decode_hash s l.at) l.end h.0) in
    lies (codec-many l.count codec-hash) s bytes l.at (hashes-start s l.count l.at read h.1) read
