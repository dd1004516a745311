-- The law of each item.
use mathlib.Core.Path.{◌≡◌, refl, sym, ap}
use mathlib.Core.Logic.{◌↔◌}
use mathlib.Core.List.{List, [], ◌∷◌, ◌++◌}
use Prim.Native.Nat.{ℕ, zero, suc, ◌<◌, ◌≤◌}
use native.Mathlib.Omega.{arith}
use lib.Dec.{leb, eqb}
use borrow.Author.Tests.{le-leb, leb-true, eqb-true, eqb-false, eq-eqb, ne_eqb}
use Rattle.format.specs.Tables.{pick}
use Rattle.format.specs.Messages.{Bound, Operator, Query, TagType, and, and_not, at_least, at_most, dword_type, field, float_type, hash_type, join, keyword, limit, or, string_type}
use Rattle.format.specs.Layout.{bound_code, encode_address, encode_hash, encode_name, encode_query, encode_record, encode_string, encode_tag, encode_tags, encode_value, little_endian, operator_code, type_code}
use Rattle.format.specs.Rules.{Dword, ValidAddress, ValidHash, ValidLeaves, ValidName, ValidQuery, ValidRecord, ValidString, ValidTag, ValidTags, ValidValue, depth}
use Rattle.format.specs.Decoding.{Decoder, Rule, ◌>>=◌, and_then, checked, passes, pure, violates}
use Rattle.format.specs.Order.{decode_fixed, QueryCase, case_code, bounds, check_name_length, decode_address, decode_case, decode_code, decode_dword, decode_hash, decode_name, decode_query, decode_query_in, decode_record, decode_string, decode_tag, decode_tags, decode_type, decode_value, decode_value_of, decode_word, is_field, is_join, is_keyword, is_limit, operators, query_cases}
use Rattle.format.proofs.Codec.{Place, anywhere, Codec, never, here, codec-run, codec-after, codec-cases, codec-labelled, codec-pair, codec-checked, codec-via, regroup, same, recast, codec-counted-bytes, codec-counted, codec-byte, codec-word, codec-dword, codec-table, if-passes, unless-violates}

pub codec-hash : {p : Place} → Codec p decode_hash encode_hash ValidHash
unfolding decode_hash
codec-hash = codec-run 16

pub codec-string : {p : Place} → Codec p decode_string encode_string ValidString
unfolding decode_string encode_string
codec-string = codec-counted-bytes codec-word

pub codec-fixed : {p : Place} (b : ℕ) → b < 256 → Codec p (decode_fixed b) (λ _. little_endian 1 b) (λ _. Unit {0})
unfolding decode_fixed
codec-fixed b small = codec-checked 1 _ (λ _. b) (λ _. Unit {0})
    (λ x u h e. (sym (eqb-true x b (if-passes Rule.choice tt (eqb x b) e).0), tt)) (λ u h. (small, rw (eq-eqb b b refl))) codec-byte

codec-spec_name_length : Codec anywhere (checked 2 check_name_length decode_word) (little_endian 2) (λ n. (1 ≤ n) × (n ≤ 255))
codec-spec_name_length = codec-checked 2 check_name_length (λ n. n) (λ n. (1 ≤ n) × (n ≤ 255))
    (λ n m h e.
    let x = unless-violates Rule.choice (pick (leb n 255) (passes n) (violates Rule.name_ceiling)) (eqb n 0) e in
    let y = if-passes Rule.name_ceiling n (leb n 255) x.1 in
    let few : n ≤ 255 = leb-true n 255 y.0 in
    let some : n ≡ 0 → ⊥ = eqb-false n 0 x.0 in
    (sym y.1, (omega arith, omega arith)))
    (λ n h. (omega arith, rw (ne_eqb n 0 (λ z. omega arith), le-leb n 255 h.1)))
    codec-word

pub codec-name : {p : Place} → Codec p decode_name encode_name ValidName
unfolding decode_name encode_name
codec-name = recast (λ t. refl) (λ t. (λ h. ((h.some, h.few), h.bytes), λ h. record { some = h.0.0; few = h.0.1; bytes = h.1 })) (codec-counted-bytes codec-spec_name_length)

pub codec-address : {p : Place} → Codec p decode_address encode_address ValidAddress
unfolding decode_address encode_address
codec-address = same (λ s at. simp regroup) (recast (λ _. refl) (λ a. (λ h. (h.ip, h.port), λ h. record { ip = h.0; port = h.1 }))
    (codec-via (λ c. record { ip = c.0; port = c.1 }) (λ a. (a.ip, a.port)) (λ _. refl) (λ _ _. refl) (codec-pair codec-dword codec-word)))

codec-type : Codec anywhere decode_type (λ k. little_endian 1 (type_code k)) (λ _. Unit {0})
unfolding decode_type
codec-type = codec-table type_code (hash_type ∷ string_type ∷ dword_type ∷ float_type ∷ [])
    (elim [ hash_type ↦ (refl, omega arith) | string_type ↦ (refl, omega arith) | dword_type ↦ (refl, omega arith) | float_type ↦ (refl, omega arith) ])

codec-value_of : {p : Place} (k : TagType) → Codec p (decode_value_of k) (encode_value k) (ValidValue k)
codec-value_of hash_type = codec-hash
codec-value_of string_type = codec-string
codec-value_of dword_type = codec-dword
codec-value_of float_type = codec-dword

codec-value : {p : Place} (k : TagType) → Codec p (decode_value k) (λ v. encode_value v.0 v.1) (λ v. (v.0 ≡ k) × ValidValue v.0 v.1)
unfolding decode_value
codec-value = codec-labelled codec-value_of

pub codec-tag : {p : Place} → Codec p decode_tag encode_tag ValidTag
unfolding decode_tag encode_tag
codec-tag = same (λ s at. simp regroup) (recast (λ _. refl) (λ t. (λ h. (tt, (h.name, (refl, h.value))), λ h. record { name = h.1.0; value = h.1.1.1 }))
    (codec-via (λ c. record { name = c.1.0; value = c.1.1 }) (λ t. (t.value.0, (t.name, t.value))) (λ _. refl) (λ c h. ap (λ k. (k, c.1)) h.1.1.0)
    (codec-after codec-type (λ k. codec-pair codec-name (codec-value k)))))

pub codec-tags : {p : Place} → Codec p decode_tags encode_tags ValidTags
unfolding decode_tags encode_tags
codec-tags = codec-counted codec-dword codec-tag

pub codec-record : {p : Place} → Codec p decode_record encode_record ValidRecord
unfolding decode_record encode_record
codec-record = same (λ s at. simp regroup) (recast (λ _. refl)
    (λ r. (λ h. (h.hash, (h.client, (h.port, h.tags))), λ h. record { hash = h.0; client = h.1.0; port = h.1.1.0; tags = h.1.1.1 }))
    (codec-via (λ c. record { hash = c.0; client = c.1.0; port = c.1.1.0; tags = c.1.1.1 }) (λ r. (r.hash, (r.client, (r.port, r.tags)))) (λ _. refl) (λ _ _. refl)
    (codec-pair codec-hash (codec-pair codec-dword (codec-pair codec-word codec-tags)))))

-- Queries
codec-operator : Codec anywhere (decode_code operators) (λ o. little_endian 1 (operator_code o)) (λ _. Unit {0})
codec-operator = codec-table operator_code (and ∷ or ∷ and_not ∷ [])
    (elim [ and ↦ (refl, omega arith) | or ↦ (refl, omega arith) | and_not ↦ (refl, omega arith) ])

codec-bound : Codec anywhere (decode_code bounds) (λ o. little_endian 1 (bound_code o)) (λ _. Unit {0})
codec-bound = codec-table bound_code (at_least ∷ at_most ∷ []) (elim [ at_least ↦ (refl, omega arith) | at_most ↦ (refl, omega arith) ])

codec-case : Codec anywhere (decode_code query_cases) (λ c. little_endian 1 (case_code c)) (λ _. Unit {0})
codec-case = codec-table case_code (is_join ∷ is_keyword ∷ is_field ∷ is_limit ∷ [])
    (elim [ is_join ↦ (refl, omega arith) | is_keyword ↦ (refl, omega arith) | is_field ↦ (refl, omega arith) | is_limit ↦ (refl, omega arith) ])

-- What a case of a query holds, and the query that it makes.
abbrev Parts : QueryCase → Type 0
Parts is_join = Operator × (Query × Query)
Parts is_keyword = List ℕ
Parts is_field = List ℕ × List ℕ
Parts is_limit = ℕ × (Bound × List ℕ)

abbrev made : (c : QueryCase) → Parts c → Query
made is_join p = join p.0 p.1.0 p.1.1
made is_keyword t = keyword t
made is_field p = field p.0 p.1
made is_limit p = limit p.0 p.1.0 p.1.1

abbrev apart : Query → (c : QueryCase) × Parts c
apart (join o q r) = (is_join, (o, (q, r)))
apart (keyword t) = (is_keyword, t)
apart (field t n) = (is_field, (t, n))
apart (limit v s n) = (is_limit, (v, (s, n)))

abbrev both : {A B : Type 0} → Decoder A → Decoder B → Decoder (A × B)
both r q = r >>= (λ a. q >>= (λ b. pure (a, b)))

abbrev decode_parts : Decoder Query → (c : QueryCase) → Decoder (Parts c)
decode_parts q is_join = both (decode_code operators) (both q q)
decode_parts q is_keyword = decode_string
decode_parts q is_field = both decode_string decode_name
decode_parts q is_limit = both decode_dword (both (decode_code bounds) decode_name)

abbrev encode_parts : (c : QueryCase) → Parts c → List ℕ
encode_parts is_join p = little_endian 1 (operator_code p.0) ++ (encode_query p.1.0 ++ encode_query p.1.1)
encode_parts is_keyword t = encode_string t
encode_parts is_field p = encode_string p.0 ++ encode_name p.1
encode_parts is_limit p = little_endian 4 p.0 ++ (little_endian 1 (bound_code p.1.0) ++ encode_name p.1.1)

abbrev In : ℕ → Query → Type 0
In d q = ValidLeaves q × (depth q ≤ d)

abbrev ValidCase : ℕ → (c : QueryCase) → Parts c → Type 0
ValidCase d is_join p = Unit {0} × (In d p.1.0 × In d p.1.1)
ValidCase d is_keyword t = ValidString t
ValidCase d is_field p = ValidString p.0 × ValidName p.1
ValidCase d is_limit p = Dword p.0 × (Unit {0} × ValidName p.1.1)

codec-parts : {p : Place} (d : ℕ) {q : Decoder Query} → Codec anywhere q encode_query (In d) → (c : QueryCase) → Codec p (decode_parts q c) (encode_parts c) (ValidCase d c)
codec-parts d Q is_join = codec-pair codec-operator (codec-pair Q (here Q))
codec-parts d Q is_keyword = codec-string
codec-parts d Q is_field = codec-pair codec-string codec-name
codec-parts d Q is_limit = codec-pair codec-dword (codec-pair codec-bound codec-name)

case-decodes : (q : Decoder Query) (c : QueryCase) (s : List ℕ) (at : ℕ) → decode_case q c s at ≡ and_then s (decode_parts q c s at) (λ v. pure (made c v))
case-decodes q is_join s at = simp regroup
case-decodes q is_keyword s at = refl
case-decodes q is_field s at = simp regroup
case-decodes q is_limit s at = simp regroup

rules-query : (d : ℕ) (q : Query) → In (suc d) q ↔ (Unit {0} × ValidCase d (apart q).0 (apart q).1)
unfolding ValidLeaves depth
rules-query d (join o q r) = (λ h. (tt, (tt, ((h.0.0, omega arith), (h.0.1, omega arith)))), λ h. ((h.1.1.0.0, h.1.1.1.0), omega (arith, h.1.1.0.1, h.1.1.1.1)))
rules-query d (keyword t) = (λ h. (tt, h.0), λ h. (h.1, omega arith))
rules-query d (field t n) = (λ h. (tt, h.0), λ h. (h.1, omega arith))
rules-query d (limit v s n) = (λ h. (tt, (h.0.0, (tt, h.0.1))), λ h. ((h.1.0, h.1.1.1), omega arith))

bytes-query : (q : Query) → encode_query q ≡ little_endian 1 (case_code (apart q).0) ++ encode_parts (apart q).0 (apart q).1
unfolding encode_query
bytes-query (join o q r) = refl
bytes-query (keyword t) = refl
bytes-query (field t n) = refl
bytes-query (limit v s n) = refl

pub some-depth : (q : Query) → 1 ≤ depth q
unfolding depth
some-depth (join o q r) = omega arith
some-depth (keyword t) = omega arith
some-depth (field t n) = omega arith
some-depth (limit v s n) = omega arith

together : (q : Query) → made (apart q).0 (apart q).1 ≡ q
together (join o q r) = refl
together (keyword t) = refl
together (field t n) = refl
together (limit v s n) = refl

back : (c : QueryCase) (v : Parts c) → apart (made c v) ≡ (c, v)
back is_join v = refl
back is_keyword v = refl
back is_field v = refl
back is_limit v = refl

codec-query_in : {p : Place} (d : ℕ) → Codec p (decode_query_in d) encode_query (In d)
unfolding decode_query_in
codec-query_in zero = record { sound = λ s hb at i q next e z. absurd (never e); complete = λ s at q rest h e i z. absurd (omega (arith, some-depth q)) }
codec-query_in (suc d) = recast bytes-query (rules-query d) (codec-cases made apart together back (case-decodes (decode_query_in d)) codec-case (codec-parts d (codec-query_in d)))

pub codec-query : {p : Place} → Codec p decode_query encode_query ValidQuery
unfolding decode_query
codec-query = codec-query_in 24
