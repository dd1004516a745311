-- A tag that is decoded ends inside the bytes, after the place where it begins.
use Prim.Native.Nat.{ℕ, ◌<◌, ◌≤◌}
use mathlib.Core.Path.{◌≡◌}
use mathlib.Core.List.{List}
use native.Mathlib.Omega.{arith}
use lib.ListN.{length}
use Rattle.format.specs.Messages.{TagType, hash_type, string_type, dword_type, float_type, TagValue, Tag}
use Rattle.format.specs.Decoding.{choice, got, found}
use Rattle.format.specs.Tables.{lookup}
use Rattle.format.specs.Order.{decode_byte, decode_word, decode_hash, decode_string, decode_code, decode_name, check_name_length, decode_type, tag_types, decode_value, decode_value_of, decode_tag}
use Rattle.format.proofs.Codec.{same_place, went, settled-got}
use Rattle.format.proofs.There.{run-was, byte-ends, word-ends, dword-ends}

module _ (s : List ℕ) where
  type-ends : {at : ℕ} {t : TagType} {next : ℕ} → decode_type s at ≡ got t next → at < next
  unfolding decode_type decode_code
  type-ends {at} {next = next} e =
      let w = went s (decode_byte s at) e in
      let p = (settled-got at 1 (found choice (lookup tag_types w.first)) w.mid w.then).1 in
      omega (arith, (byte-ends s at w.was).1, p)

  name-ends : {at : ℕ} {name : List ℕ} {next : ℕ} → decode_name s at ≡ got name next → at ≤ next
  unfolding decode_name
  name-ends {at} {next = next} e =
      let w = went s _ e in
      let v = went s (decode_word s at) w.was in
      let p = (settled-got at 2 (check_name_length v.first) v.mid v.then).1 in
      omega (arith, (word-ends s at v.was).1, p, (run-was s w.mid w.first w.then).1.0)

  value-ends : (k : TagType) {at : ℕ} {v : TagValue k} {next : ℕ} → decode_value_of k s at ≡ got v next → (at ≤ next) × (next ≤ length s)
  unfolding decode_hash decode_string
  value-ends hash_type {at} e = let r = run-was s at 16 e in omega (arith, r.0, r.1.0)
  value-ends string_type {at} e =
      let w = went s (decode_word s at) e in
      let r = run-was s w.mid w.first w.then in
      omega (arith, (word-ends s at w.was).1, r.0, r.1.0)
  value-ends dword_type {at} e = omega (arith, dword-ends s at e)
  value-ends float_type {at} e = omega (arith, dword-ends s at e)

  pub tag-ends : {at : ℕ} {t : Tag} {next : ℕ} → decode_tag s at ≡ got t next → (at < next) × (next ≤ length s)
  unfolding decode_tag decode_value
  tag-ends {at} e =
      let k = went s (decode_type s at) e in
      let n = went s (decode_name s k.mid) k.then in
      let w = went s (decode_value k.first s n.mid) n.then in
      let v = went s (decode_value_of k.first s n.mid) w.was in
      let p = value-ends k.first v.was in
      omega (arith, type-ends k.was, name-ends n.was, p, same_place v.then, same_place w.then)
