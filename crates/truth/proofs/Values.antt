-- The value of a tag that has the type and the name that a leaf looks for: where it lies, and what the leaf's test finds of it.
use Prim.Native.Nat.{ℕ, ◌+◌, ◌*◌, ◌≤◌}
use mathlib.Core.Path.{◌≡◌, refl, sym, ap, ◌∙◌}
use mathlib.Core.Bool.{Bool, true, false}
use mathlib.Core.List.{List}
use native.Mathlib.Omega.{arith}
use lib.ListN.{length, get_or}
use lib.Dec.{eqb}
use borrow.Author.Tests.{eqb-true}
use Rattle.format.specs.Tables.{pick, same}
use Rattle.format.specs.Messages.{Tag, TagType, TagValue, hash_type, string_type, dword_type, float_type}
use Rattle.format.specs.Layout.{type_code}
use Rattle.format.specs.Decoding.{Outcome, refused, got, pure, bytes_at}
use Rattle.format.specs.Order.{decode_dword, decode_string, decode_tag, decode_value, decode_value_of}
use Rattle.format.specs.Truth.{on_string, on_dword, string_tag, dword_tag}
use Rattle.format.proofs.Differ.{differ}
use Rattle.format.proofs.Codec.{same-value, Went, went}
use Rattle.format.proofs.There.{run-there, value-is, word-there}
use Rattle.truth.specs.TruthAnswers.{is_of, number_in, number_of, on_item, text_in, text_of}
use Rattle.tags.specs.Skips.{Lies}
use Rattle.tags.proofs.WholeTags.{on-tag, text-ends}

-- A tag of a type and name that was found lies there, and begins with the code of the type.
item-lies : (p : Tag → Bool) (o : Outcome Tag) → true ≡ on_item p o → Lies o
item-lies p (refused f) e = differ cc
item-lies p (got t next) e = tt

module _ (s : List ℕ) (at code : ℕ) (name : List ℕ) (is : true ≡ on_item (is_of code name) (decode_tag s at)) where
  pub sought-lies : Lies (decode_tag s at)
  sought-lies = item-lies (is_of code name) (decode_tag s at) is

  pub sought-code : get_or s at 0 ≡ code
  unfolding is_of
  sought-code = on-tag s at _ refl sought-lies (λ o. true ≡ on_item (is_of code name) o → get_or s at 0 ≡ code) (λ t next w e. sym w.code ∙ sym (ap type_code w.is) ∙ eqb-true _ _ (first (eqb (type_code t.value.0) code) (same t.name name) e)) is
    where
      first : (a b : Bool) → true ≡ pick a b false → a ≡ true
      first true b e = refl
      first false b e = differ cc

-- What the tests of the leaves find of such a tag: they depend on its value alone.
pub text-meets : (name : List ℕ) (p : List ℕ → Bool) (o : Outcome Tag) → true ≡ on_item (is_of 2 name) o → p (text_of o) ≡ on_item (string_tag name p) o
unfolding is_of string_tag
text-meets name p (refused f) e = differ cc
text-meets name p (got t next) e = go (same t.name name) t.value.0 t.value.1 e
  where
    go : (b : Bool) (k : TagType) (v : TagValue k) → true ≡ pick (eqb (type_code k) 2) b false → p (text_in k v) ≡ pick b (on_string p k v) false
    go b hash_type v e = differ cc
    go true string_type v e = refl
    go false string_type v e = differ cc
    go b dword_type v e = differ cc
    go b float_type v e = differ cc

pub number-meets : (name : List ℕ) (p : ℕ → Bool) (o : Outcome Tag) → true ≡ on_item (is_of 3 name) o → p (number_of o) ≡ on_item (dword_tag name p) o
unfolding is_of dword_tag
number-meets name p (refused f) e = differ cc
number-meets name p (got t next) e = go (same t.name name) t.value.0 t.value.1 e
  where
    go : (b : Bool) (k : TagType) (v : TagValue k) → true ≡ pick (eqb (type_code k) 3) b false → p (number_in k v) ≡ pick b (on_dword p k v) false
    go b hash_type v e = differ cc
    go b string_type v e = differ cc
    go true dword_type v e = refl
    go false dword_type v e = differ cc
    go b float_type v e = differ cc

-- Where the value lies.
string-there : (s : List ℕ) (at m : ℕ) → m ≡ get_or s at 0 + 256 * get_or s (at + 1) 0 → at + 2 + m ≤ length s → got (bytes_at s (at + 2) m) (at + 2 + m) ≡ decode_string s at
unfolding decode_string
string-there s at m e h = rw (← word-there s at (omega arith), ← e, ← run-there s (at + 2) m h) refl

value-went : (k : TagType) (s : List ℕ) (at : ℕ) {v : (t : TagType) × TagValue t} {next : ℕ} → decode_value k s at ≡ got v next →
    Went s (decode_value_of k s at) (λ v. pure (k, v)) v next
value-went k s at e = went s (decode_value_of k s at) (sym (value-is k s at) ∙ e)

module _ (s : List ℕ) (at n : ℕ) (word : n ≡ get_or s (at + 1) 0 + 256 * get_or s (at + 2) 0) (lies : Lies (decode_tag s at)) where
  pub text-is : (m : ℕ) → get_or s at 0 ≡ 2 → m ≡ get_or s (at + 3 + n) 0 + 256 * get_or s (at + 3 + n + 1) 0 → bytes_at s (at + 3 + n + 2) m ≡ text_of (decode_tag s at)
  text-is m is e = on-tag s at n word lies (λ o. bytes_at s (at + 3 + n + 2) m ≡ text_of o) (λ t next w. go is (text-ends s at n word lies m is e).0 t next w.type w.code w.value-is)
    where
      go : get_or s at 0 ≡ 2 → at + 3 + n + 2 + m ≤ length s → (t : Tag) (next : ℕ) (k : TagType) → type_code k ≡ get_or s at 0 → decode_value k s (at + 3 + n) ≡ got t.value next →
          bytes_at s (at + 3 + n + 2) m ≡ text_in t.value.0 t.value.1
      go is h t next hash_type c v = absurd (omega arith)
      go is h t next string_type c v =
          let w = value-went string_type s (at + 3 + n) v in
          same-value (string-there s (at + 3 + n) m e h ∙ w.was) ∙ ap (λ v. text_in v.0 v.1) (same-value w.then)
      go is h t next dword_type c v = absurd (omega arith)
      go is h t next float_type c v = absurd (omega arith)

  pub number_is : get_or s at 0 ≡ 3 → (next : ℕ) × (decode_dword s (at + 3 + n) ≡ got (number_of (decode_tag s at)) next)
  number_is is = on-tag s at n word lies (λ o. (next : ℕ) × (decode_dword s (at + 3 + n) ≡ got (number_of o) next)) (λ t next w. go is t next w.type w.code w.value-is)
    where
      go : get_or s at 0 ≡ 3 → (t : Tag) (next : ℕ) (k : TagType) → type_code k ≡ get_or s at 0 → decode_value k s (at + 3 + n) ≡ got t.value next →
          (next : ℕ) × (decode_dword s (at + 3 + n) ≡ got (number_in t.value.0 t.value.1) next)
      go is t next hash_type c v = absurd (omega arith)
      go is t next string_type c v = absurd (omega arith)
      go is t next dword_type c v =
          let w = value-went dword_type s (at + 3 + n) v in
          (w.mid, w.was ∙ ap (λ v. got (number_in v.0 v.1) w.mid) (same-value w.then))
      go is t next float_type c v = absurd (omega arith)
