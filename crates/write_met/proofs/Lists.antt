-- Lists by their places: what lies there, and how many bytes it has.
use Prim.Native.Nat.{ℕ, ◌+◌, ◌-◌, ◌*◌, ◌≤◌}
use mathlib.Core.Path.{◌≡◌, refl, sym, ◌∙◌}
use mathlib.Core.List.{List, [], ◌∷◌}
use native.Mathlib.Omega.{arith}
use lib.ListN.{get_or, length, length-append}
use mir.Syntax.{w8}
use mir.Val.{Fits}
use Rattle.format.specs.Layout.{encode_all, encode_hash}
use Rattle.format.specs.Rules.{All, Bytes, ValidHash}
use Rattle.format.specs.Decoding.{Decoder, bytes_at, decode_many, ends, got}
use Rattle.format.specs.Order.{decode_hash}
use Rattle.format.proofs.Codec.{Codec, anywhere}
use Rattle.format.proofs.There.{run-was}
use Rattle.format.proofs.Writing.{NeedsByte}
use Rattle.wire.specs.declared.Items.{Items}
use Rattle.wire.specs.WireAnswers.{hash_at, items_in, items_meaning}
use Rattle.wire.proofs.Replies.{slice-bytes}
use Rattle.write_items.specs.There.{hash_there, items_there}
use Rattle.write_items.proofs.There.{ends-got, is-there, valid-hash}
use Rattle.write_items.proofs.Listed.{listed}
use Rattle.write_met.specs.Lengths.{EndsAfter, items_end}
use Rattle.std.specs.Prelude.{Ok, Err}
use Rattle.wire.specs.WireAnswers.{Step}

-- The items of a list lie in n bytes from its place on.
pub record Here {A : Type 0} (encode : A → List ℕ) (Valid : A → Type 0) (s : List ℕ) (l : Items) (items : List A) (n : ℕ) : Type 0 where
  pub count : length items ≡ l.count
  pub all : All Valid items
  pub bytes : bytes_at s l.at n ≡ encode_all encode items
  pub size : length (encode_all encode items) ≡ n

module _ {A : Type 0} {d : Decoder A} {encode : A → List ℕ} {Valid : A → Type 0} (L : Codec anywhere d encode Valid) (needed : NeedsByte d) (s : List ℕ) (known : (i : ℕ) → Fits w8 (get_or s i 0)) (l : Items) where
  hb : Bytes s
  hb = slice-bytes s known

  pub list-here : {n : ℕ} → got tt (l.at + n) ≡ items_there d s l → Here encode Valid s l (items_in d s l) n
  list-here {n} e =
      let h = listed L needed s hb l (sym e) in
      let k : l.at + n - l.at ≡ n = omega arith in
      record { count = h.count; all = h.valid; bytes = rw k at h.bytes; size = h.size ∙ k }

  -- What code knows of the end of a list.
  pub end_after : {next : ℕ} → got tt next ≡ items_there d s l → l.at ≤ next
  end_after e = (listed L needed s hb l (sym e)).order

  pub list-after : (r : Step Items) → items_meaning d s r ≡ decode_many l.count d s l.at → EndsAfter l.at r
  list-after (Ok (k, c)) e = end_after (ends-got e)
  list-after (Err f) e = tt

  pub list-ends : (r : Step Items) → items_meaning d s r ≡ decode_many l.count d s l.at → items_end r ≡ items_there d s l
  unfolding ends
  list-ends (Ok (k, c)) e = rw (← e) refl
  list-ends (Err f) e = rw (← e) refl

-- Hashes of k bytes each.
pub hashes-size : (k : ℕ) (l : List (List ℕ)) → All (λ h. (length h ≡ k) × Bytes h) l → length (encode_all encode_hash l) ≡ k * length l
hashes-size k [] h = omega arith
hashes-size k (x ∷ l) h = length-append x (encode_all encode_hash l) ∙ omega (arith, h.0.0, hashes-size k l h.1)

-- A hash that is there.
pub hash-there : (s : List ℕ) (at : ℕ) {h : List ℕ} {next : ℕ} → got h next ≡ decode_hash s at → got tt (at + 16) ≡ hash_there s at
unfolding ends decode_hash
hash-there s at {next = next} e = rw (sym (run-was s at 16 (sym e)).1.0, ← e) refl

pub hash-valid : (s : List ℕ) → ((i : ℕ) → Fits w8 (get_or s i 0)) → (at : ℕ) {next : ℕ} → got tt next ≡ hash_there s at → ValidHash (hash_at s at)
hash-valid s known at e = valid-hash s (slice-bytes s known) at (is-there (sym e))
