-- Lists whose items are encoded at their offset: what is known of their bytes once the reading of the items gives their end.
use Prim.Native.Nat.{ℕ, ◌-◌, ◌≤◌}
use mathlib.Core.Path.{◌≡◌, refl, sym, ap}
use mathlib.Core.List.{List}
use native.Mathlib.Omega.{arith}
use lib.ListN.{length, length-drop, length-take}
use Rattle.format.specs.Layout.{encode_all}
use Rattle.format.specs.Rules.{All, Bytes}
use Rattle.format.specs.Decoding.{Decoder, Outcome, bytes_at, decode_many, got, items_of, refused}
use Rattle.format.proofs.Codec.{Codec, anywhere, bytes-part}
use Rattle.format.proofs.Many.{ends-items}
use Rattle.format.proofs.Writing.{NeedsByte, many-lies}
use Rattle.wire.specs.declared.Items.{Items}
use Rattle.wire.specs.WireAnswers.{items_in}
use Rattle.write_items.specs.There.{items_there}

-- A run has no more bytes than there are.
pub run-few : (s : List ℕ) (at n : ℕ) → length (bytes_at s at n) ≤ length s
run-few s at n = simp (length-take, length-drop) (omega arith)

pub record Listed {A : Type 0} (d : Decoder A) (encode : A → List ℕ) (Valid : A → Type 0) (s : List ℕ) (l : Items) (end : ℕ) : Type 0 where
  pub there : items_there d s l ≡ got tt end
  pub order : l.at ≤ end
  pub few : end - l.at ≤ length s
  pub size : length (encode_all encode (items_in d s l)) ≡ end - l.at
  pub bytes : bytes_at s l.at (end - l.at) ≡ encode_all encode (items_in d s l)
  pub count : length (items_in d s l) ≡ l.count
  pub valid : All Valid (items_in d s l)

module _ {A : Type 0} {d : Decoder A} {encode : A → List ℕ} {Valid : A → Type 0} (L : Codec anywhere d encode Valid) (needed : NeedsByte d) (s : List ℕ) (hb : Bytes s) (l : Items) where
  pub listed : {end : ℕ} → items_there d s l ≡ got tt end → Listed d encode Valid s l end
  listed {end} e =
      let h = many-lies L needed s hb l.at l.count (sym (ends-items (decode_many l.count d s l.at) end e)) in
      let size : length (encode_all encode (items_in d s l)) ≡ end - l.at = omega (arith, h.end) in
      record {
        there = e;
        order = omega (arith, h.end);
        few = omega (arith, run-few s l.at (end - l.at), ap length h.bytes);
        size = size;
        bytes = h.bytes;
        count = h.valid.0;
        valid = h.valid.1;
      }

  -- The bytes of a list are bytes; where no such items are encoded, there are none.
  pub items-bytes : Bytes (encode_all encode (items_in d s l))
  items-bytes = go (decode_many l.count d s l.at) refl
    where
      go : (o : Outcome (List A)) → decode_many l.count d s l.at ≡ o → Bytes (encode_all encode (items_of o))
      go (refused f) e = tt
      go (got items next) e = rw (many-lies L needed s hb l.at l.count e).bytes at (bytes-part s hb l.at (next - l.at))
