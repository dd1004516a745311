-- Single items from their pieces: how many bytes they have, their number, and what their writers owe.
use Prim.Native.Nat.{ℕ, ◌+◌, ◌<◌}
use mathlib.Core.Path.{◌≡◌, refl, sym, ap, ◌∙◌}
use mathlib.Core.Logic.{◌↔◌}
use mathlib.Core.List.{List, [], ◌∷◌, ◌++◌, append-nil}
use native.Mathlib.Omega.{arith}
use lib.ListN.{length, drop, length-append}
use Rattle.format.specs.Messages.{Tag, dword_type, float_type, hash_type, string_type}
use Rattle.format.specs.Layout.{byte, dword, encode_name, encode_string, encode_tag, encode_value, type_code}
use Rattle.format.specs.Rules.{Bytes, Dword, ValidHash, ValidValue}
use Rattle.format.specs.Decoding.{Decoder, Outcome, Rule, fault, got, refused, violates}
use Rattle.format.specs.Order.{check_name_length, decode_name, decode_string, decode_tag, decode_type}
use Rattle.format.specs.Writing.{StringFits, TagFits, ValueFits}
use Rattle.format.specs.RoundTrip.{IsThere}
use Rattle.format.proofs.Codec.{Codec, anywhere, behind, codec-table, fits, length-little_endian}
use Rattle.format.proofs.Items.{codec-name, codec-string, codec-tag}
use Rattle.write_items.specs.There.{no_places}
use Rattle.write_items.specs.Item.{ItemJudged, WritesItem, WritesTag, fine, overflows, refused_for, tag_of}
use Rattle.write_items.specs.Numbers.{count_number, spec_tag_number}
use Rattle.write_items.proofs.Answers.{Ready, item-ready}
use Rattle.write_items.proofs.Pieces.{count-judged, length-name, length-string, name-judged, name-string}
use Rattle.write_items.proofs.Leaves.{name-refused}

item-fine : {A : Type 0} {Fits : A → Type 0} {encode : A → List ℕ} {decode : Decoder A} {Valid : A → Type 0} → Codec anywhere decode encode Valid → (a : A) → Fits a → Valid a →
    ItemJudged Fits encode decode a 0
item-fine {encode = encode} L a f v = fine f (L.complete (encode a) 0 a [] v (sym (append-nil (encode a))) (omega arith) tt ∙ ap (got a) (omega arith))

-- A String and a name.
module _ (t : List ℕ) (ht : Bytes t) where
  string-judged : ItemJudged StringFits encode_string decode_string t (count_number (length t) 0)
  string-judged = count-judged (ItemJudged StringFits encode_string decode_string t) (length t) 0 (λ over. overflows over) (λ few. item-fine codec-string t few (few, ht))

  pub string-ready : Ready (WritesItem StringFits encode_string decode_string no_places t) (count_number (length t) 0) (encode_string t) (2 + length t)
  string-ready = item-ready tt string-judged refl (length-string t)

  name-fault : (rule : Rule) → StringFits t → check_name_length (length t) ≡ violates rule → decode_name (encode_name t) 0 ≡ refused (fault rule 0 2)
  name-fault rule few v = name-refused rule (encode_name t) 0 t [] few v (sym (append-nil (encode_name t))) (omega arith)

  named-judged : ItemJudged StringFits encode_name decode_name t (spec_tag_number (length t) 0)
  unfolding spec_tag_number
  named-judged =
      let J = ItemJudged StringFits encode_name decode_name t in
      count-judged J (length t) _ (λ over. overflows over) (λ few.
      name-judged J (length t) (λ rule v. refused_for few (fault rule 0 2) (name-fault rule few v)) (λ some most.
      item-fine codec-name t few (record { some = some; few = most; bytes = ht })))

  pub name-ready : Ready (WritesItem StringFits encode_name decode_name no_places t) (spec_tag_number (length t) 0) (encode_string t) (2 + length t)
  name-ready = item-ready tt named-judged (sym (name-string t)) (length-string t)

-- Tags.
codec-type : Codec anywhere decode_type (λ k. byte (type_code k)) (λ _. Unit {0})
unfolding decode_type
codec-type = codec-table type_code (hash_type ∷ string_type ∷ dword_type ∷ float_type ∷ [])
    (elim [ hash_type ↦ (refl, omega arith) | string_type ↦ (refl, omega arith) | dword_type ↦ (refl, omega arith) | float_type ↦ (refl, omega arith) ])

module _ (t : Tag) where
  abbrev type : List ℕ
  type = byte (type_code t.value.0)

  abbrev name : List ℕ
  name = encode_name t.name

  abbrev value : List ℕ
  value = encode_value t.value.0 t.value.1

  tag-bytes : type ++ (name ++ value) ≡ encode_tag t
  unfolding encode_tag
  tag-bytes = refl

  tag-size : length (type ++ (name ++ value)) ≡ 3 + length t.name + length value
  tag-size = omega (arith, length-append type (name ++ value), length-append name value, length-little_endian 1 (type_code t.value.0), length-name t.name)

  tag-refused : (rule : Rule) → length t.name < 65536 → check_name_length (length t.name) ≡ violates rule → decode_tag (encode_tag t) 0 ≡ refused (fault rule (0 + length type) 2)
  unfolding decode_tag
  tag-refused rule few v =
      let s = encode_tag t in
      let a : drop 0 s ≡ type ++ (name ++ value) = sym tag-bytes in
      rw (
        codec-type.complete s 0 t.value.0 (name ++ value) tt a (omega arith) tt,
        name-refused rule s (0 + length type) t.name value few v (behind s 0 type (name ++ value) a) (fits s 0 type (name ++ value) (omega arith) a),
      )
      refl

  -- `text` is the length of the tag's text, and 0 where it has none.
  module _ (text : ℕ) (named : Bytes t.name) (fit : ValueFits t.value.0 t.value.1 ↔ (text < 65536)) (valid : text < 65536 → ValidValue t.value.0 t.value.1) where
    tag-judged : ItemJudged TagFits encode_tag decode_tag t (spec_tag_number (length t.name) text)
    unfolding spec_tag_number
    tag-judged =
        let J = ItemJudged TagFits encode_tag decode_tag t in
        let m = length t.name in
        count-judged J m _ (λ over. overflows (λ f. over f.0)) (λ few.
        count-judged J text _ (λ over. overflows (λ f. over (fit.0 f.1))) (λ short.
        let f : TagFits t = (few, fit.1 short) in
        name-judged J m (λ rule v. refused_for f (fault rule _ 2) (tag-refused rule few v)) (λ some most.
        item-fine codec-tag t f (record { name = record { some = some; few = most; bytes = named }; value = valid short }))))

    tag-ready : {there : Outcome (Unit {0})} {size : ℕ} → IsThere there → 3 + length t.name + length value ≡ size →
        Ready (WritesTag there t) (spec_tag_number (length t.name) text) (type ++ (name ++ value)) size
    tag-ready here size = item-ready here tag-judged tag-bytes (tag-size ∙ size)

  -- A tag with no text.
  pub plain_ready : {there : Outcome (Unit {0})} {size : ℕ} → IsThere there → Bytes t.name → ValueFits t.value.0 t.value.1 → ValidValue t.value.0 t.value.1 →
      3 + length t.name + length value ≡ size → Ready (WritesTag there t) (spec_tag_number (length t.name) 0) (type ++ (name ++ value)) size
  plain_ready here named fit valid = tag-ready 0 named (λ _. omega arith, λ _. fit) (λ _. valid) here

module _ (n : List ℕ) (named : Bytes n) where
  pub text-ready : (t : List ℕ) → Bytes t →
      Ready (WritesTag no_places (tag_of n string_type t)) (spec_tag_number (length n) (length t)) (byte 2 ++ (encode_name n ++ encode_string t)) (5 + length n + length t)
  text-ready t ht =
      tag-ready (tag_of n string_type t) (length t) named (λ f. f, λ f. f) (λ short. (short, ht)) tt (omega (arith, length-string t))

  pub dword-ready : (v : ℕ) → Dword v → Ready (WritesTag no_places (tag_of n dword_type v)) (spec_tag_number (length n) 0) (byte 3 ++ (encode_name n ++ dword v)) (7 + length n)
  dword-ready v small = plain_ready (tag_of n dword_type v) tt named tt small (omega (arith, length-little_endian 4 v))

  pub float-ready : (v : ℕ) → Dword v → Ready (WritesTag no_places (tag_of n float_type v)) (spec_tag_number (length n) 0) (byte 4 ++ (encode_name n ++ dword v)) (7 + length n)
  float-ready v small = plain_ready (tag_of n float_type v) tt named tt small (omega (arith, length-little_endian 4 v))

  pub hash-ready : {there : Outcome (Unit {0})} (h : List ℕ) → IsThere there → ValidHash h →
      Ready (WritesTag there (tag_of n hash_type h)) (spec_tag_number (length n) 0) (byte 1 ++ (encode_name n ++ h)) (19 + length n)
  hash-ready h here valid = plain_ready (tag_of n hash_type h) here named tt valid (omega (arith, valid.0))
