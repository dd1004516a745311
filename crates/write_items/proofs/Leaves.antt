-- Leaves of queries: what the reader says of the bytes of one whose name is too short or too long, its number, and what its writer owes.
use Prim.Native.Nat.{ℕ, suc, ◌+◌, ◌≤◌, ◌<◌}
use mathlib.Core.Path.{◌≡◌, refl, sym, ◌∙◌}
use mathlib.Core.List.{List, [], ◌∷◌, ◌++◌, append_assoc, append-nil}
use native.Mathlib.Omega.{arith}
use lib.ListN.{length, drop}
use borrow.Author.Tests.{le-leb}
use Rattle.format.specs.Messages.{Bound, Query, at_least, at_most, field, keyword, limit, lone_query}
use Rattle.format.specs.Layout.{bound_code, byte, dword, encode_name, encode_query, encode_string, word}
use Rattle.format.specs.Rules.{Bytes, Dword, ValidLeaves, depth, packet_ceiling}
use Rattle.format.specs.Decoding.{Rule, and_then, fault, refusal, refused, violates}
use Rattle.format.specs.Order.{bounds, case_code, check_name_length, decode_case, decode_code, decode_name, decode_query, decode_query_in, is_field, is_join, is_keyword, is_limit, query_cases}
use Rattle.format.specs.MetOrder.{decode}
use Rattle.format.specs.Writing.{Judged, QueryFits, overflows, refused_for}
use Rattle.format.proofs.Codec.{Codec, anywhere, behind, bytes-append, bytes-little_endian, codec-dword, codec-table, codec-word, fits}
use Rattle.format.proofs.Items.{codec-string}
use Rattle.format.proofs.Writing.{ceiling-judged, valid-judged}
use Rattle.write_items.specs.There.{no_places}
use Rattle.write_items.specs.Numbers.{spec_field_number, spec_keyword_number, spec_limit_number}
use Rattle.write_items.proofs.Answers.{Promised, Ready, message-ready}
use Rattle.write_items.proofs.Pieces.{count-judged, field-size, keyword-size, limit-size, name-judged, name-string}

-- A query begins with its case.
pub query-step : (d : ℕ) (s : List ℕ) (at : ℕ) → decode_query_in (suc d) s at ≡ and_then s (decode_code query_cases s at) (decode_case (decode_query_in d))
unfolding decode_query_in
query-step d s at = refl

pub codec-case : Codec anywhere (decode_code query_cases) (λ c. byte (case_code c)) (λ _. Unit {0})
codec-case = codec-table case_code (is_join ∷ is_keyword ∷ is_field ∷ is_limit ∷ [])
    (elim [ is_join ↦ (refl, omega arith) | is_keyword ↦ (refl, omega arith) | is_field ↦ (refl, omega arith) | is_limit ↦ (refl, omega arith) ])

codec-bound : Codec anywhere (decode_code bounds) (λ b. byte (bound_code b)) (λ _. Unit {0})
codec-bound = codec-table bound_code (at_least ∷ at_most ∷ []) (elim [ at_least ↦ (refl, omega arith) | at_most ↦ (refl, omega arith) ])

-- A name that breaks its rule, wherever it stands.
pub name-refused : (rule : Rule) (s : List ℕ) (at : ℕ) (n rest : List ℕ) → length n < 65536 → check_name_length (length n) ≡ violates rule →
    drop at s ≡ encode_name n ++ rest → at ≤ length s → decode_name s at ≡ refused (fault rule at 2)
unfolding decode_name encode_name
name-refused rule s at n rest few v e i =
    rw ((codec-word {p = anywhere}).complete s at (length n) (n ++ rest) few (e ∙ append_assoc (word (length n)) n rest) i tt, v) refl

field-bytes : (t n : List ℕ) → encode_query (field t n) ≡ byte 2 ++ (encode_string t ++ encode_name n)
unfolding encode_query
field-bytes t n = refl

limit-bytes : (v : ℕ) (b : Bound) (n : List ℕ) → encode_query (limit v b n) ≡ byte 3 ++ (dword v ++ (byte (bound_code b) ++ encode_name n))
unfolding encode_query
limit-bytes v b n = refl

module _ (rule : Rule) (n : List ℕ) (few : length n < 65536) (v : check_name_length (length n) ≡ violates rule) where
  field-refused : (t : List ℕ) → Bytes t → length t < 65536 → length (encode_query (field t n)) ≤ packet_ceiling →
      decode lone_query (encode_query (field t n)) ≡ refusal (fault rule (0 + length (byte 2) + length (encode_string t)) 2)
  unfolding decode decode_query
  field-refused t hb short within =
      let s = encode_query (field t n) in
      let x = byte 2 in
      let y = encode_string t in
      let z = encode_name n in
      let a : drop 0 s ≡ x ++ (y ++ z) = field-bytes t n in
      let b = behind s 0 x (y ++ z) a in
      let i = fits s 0 x (y ++ z) (omega arith) a in
      let at = 0 + length x + length y in
      let d : drop at s ≡ z ++ [] = behind s (0 + length x) y z b ∙ sym (append-nil z) in
      rw (
        le-leb (length s) packet_ceiling within,
        query-step 23 s 0,
        codec-case.complete s 0 is_field (y ++ z) tt a (omega arith) tt,
        (codec-string {p = anywhere}).complete s (0 + length x) t z (short, hb) b i tt,
        name-refused rule s at n [] few v d (fits s (0 + length x) y z i b),
      )
      refl

  limit-refused : (w : ℕ) (b : Bound) → Dword w → length (encode_query (limit w b n)) ≤ packet_ceiling →
      decode lone_query (encode_query (limit w b n)) ≡ refusal (fault rule (0 + length (byte 3) + length (dword w) + length (byte (bound_code b))) 2)
  unfolding decode decode_query
  limit-refused w b small within =
      let s = encode_query (limit w b n) in
      let x = byte 3 in
      let y = dword w in
      let u = byte (bound_code b) in
      let z = encode_name n in
      let a₀ : drop 0 s ≡ x ++ (y ++ (u ++ z)) = limit-bytes w b n in
      let a₁ = behind s 0 x (y ++ (u ++ z)) a₀ in
      let i₁ = fits s 0 x (y ++ (u ++ z)) (omega arith) a₀ in
      let at = 0 + length x + length y in
      let a₂ : drop at s ≡ u ++ z = behind s (0 + length x) y (u ++ z) a₁ in
      let i₂ : at ≤ length s = fits s (0 + length x) y (u ++ z) i₁ a₁ in
      let a₃ : drop (at + length u) s ≡ z ++ [] = behind s at u z a₂ ∙ sym (append-nil z) in
      rw (
        le-leb (length s) packet_ceiling within,
        query-step 23 s 0,
        codec-case.complete s 0 is_limit (y ++ (u ++ z)) tt a₀ (omega arith) tt,
        (codec-dword {p = anywhere}).complete s (0 + length x) w (u ++ z) small a₁ i₁ tt,
        codec-bound.complete s at b z tt a₂ i₂ tt,
        name-refused rule s (at + length u) n [] few v a₃ (fits s at u z i₂ a₂),
      )
      refl

-- The number of each leaf, and what its writer owes.
abbrev Judges : Query → ℕ → Type 0
Judges q n = Judged lone_query q n

keyword-judged : (t : List ℕ) → Bytes t → Judges (keyword t) (spec_keyword_number (length t))
unfolding spec_keyword_number QueryFits ValidLeaves depth
keyword-judged t hb =
    let q = keyword t in
    count-judged (Judges q) (length t) _ (λ over. overflows over) (λ few.
    rw (← keyword-size t)
    (ceiling-judged lone_query q 0 few (λ within. valid-judged lone_query q (record { content = ((few, hb), omega arith); few = within }))))

field-judged : (t n : List ℕ) → Bytes t → Bytes n → Judges (field t n) (spec_field_number (length t) (length n))
unfolding spec_field_number QueryFits ValidLeaves depth
field-judged t n ht hn =
    let q = field t n in
    count-judged (Judges q) (length t) _ (λ over. overflows (λ fit. over fit.0)) (λ short.
    count-judged (Judges q) (length n) _ (λ over. overflows (λ fit. over fit.1)) (λ few.
    rw (← field-size t n)
    (ceiling-judged lone_query q _ (short, few) (λ within.
    name-judged (Judges q) (length n) (λ rule v. refused_for (short, few) (fault rule _ 2) (field-refused rule n few v t ht short within)) (λ some most.
    valid-judged lone_query q (record { content = (((short, ht), record { some = some; few = most; bytes = hn }), omega arith); few = within }))))))

limit-judged : (v : ℕ) (b : Bound) (n : List ℕ) → Dword v → Bytes n → Judges (limit v b n) (spec_limit_number (length n))
unfolding spec_limit_number QueryFits ValidLeaves depth
limit-judged v b n small hn =
    let q = limit v b n in
    count-judged (Judges q) (length n) _ (λ over. overflows over) (λ few.
    rw (← limit-size v b n)
    (ceiling-judged lone_query q _ few (λ within.
    name-judged (Judges q) (length n) (λ rule bad. refused_for few (fault rule _ 2) (limit-refused rule n few bad v b small within)) (λ some most.
    valid-judged lone_query q (record { content = ((small, record { some = some; few = most; bytes = hn }), omega arith); few = within })))))

string_bytes : (t : List ℕ) → Bytes t → Bytes (encode_string t)
unfolding encode_string
string_bytes t h = bytes-append (word (length t)) t (bytes-little_endian 2 (length t)) h

name-bytes : (n : List ℕ) → Bytes n → Bytes (encode_name n)
name-bytes n h = rw (name-string n) (string_bytes n h)

-- What the writer of a query from its pieces owes.
abbrev pub QueryReady : (number : ℕ) → Query → (size : ℕ) → Type 0
QueryReady number q size = Ready (Promised lone_query no_places q) number (encode_query q) size

pub keyword-ready : (t : List ℕ) → Bytes t → QueryReady (spec_keyword_number (length t)) (keyword t) (3 + length t)
unfolding encode_query
keyword-ready t ht =
    let bytes = bytes-append (byte 1) _ (bytes-little_endian 1 1) (string_bytes t ht) in
    message-ready refl (keyword-judged t ht) refl bytes (keyword-size t)

pub field-ready : (t n : List ℕ) → Bytes t → Bytes n → QueryReady (spec_field_number (length t) (length n)) (field t n) (5 + length t + length n)
unfolding encode_query
field-ready t n ht hn =
    let bytes = bytes-append (byte 2) _ (bytes-little_endian 1 2) (bytes-append (encode_string t) (encode_name n) (string_bytes t ht) (name-bytes n hn)) in
    message-ready refl (field-judged t n ht hn) refl bytes (field-size t n)

pub limit-ready : (v : ℕ) (b : Bound) (n : List ℕ) → Dword v → Bytes n → QueryReady (spec_limit_number (length n)) (limit v b n) (8 + length n)
unfolding encode_query
limit-ready v b n hv hn =
    let named = bytes-append (byte (bound_code b)) (encode_name n) (bytes-little_endian 1 (bound_code b)) (name-bytes n hn) in
    let bytes = bytes-append (byte 3) _ (bytes-little_endian 1 3) (bytes-append (dword v) _ (bytes-little_endian 4 v) named) in
    message-ready refl (limit-judged v b n hv hn) refl bytes (limit-size v b n)
