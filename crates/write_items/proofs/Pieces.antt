-- Pieces of queries and tags: how many bytes they have, what it says of their lengths that no check refuses them, and which number it is.
use Prim.Native.Nat.{ℕ, ◌+◌, ◌≤◌, ◌<◌}
use mathlib.Core.Path.{◌≡◌, refl, ap, ◌∙◌}
use mathlib.Core.Bool.{Bool, true, false}
use mathlib.Core.List.{List, ◌++◌}
use native.Mathlib.Omega.{arith}
use lib.ListN.{length, length-append}
use lib.Dec.{eqb, leb}
use borrow.Author.Tests.{eqb-false, leb-false, leb-true}
use Rattle.format.specs.Tables.{pick}
use Rattle.format.specs.Messages.{Bound, field, keyword, limit}
use Rattle.format.specs.Layout.{bound_code, byte, dword, encode_name, encode_query, encode_string, word}
use Rattle.format.specs.Decoding.{Rule, choice, name_ceiling, number, violates}
use Rattle.format.specs.Order.{check_name_length}
use Rattle.format.proofs.Codec.{length-little_endian}
use Rattle.write_items.specs.Numbers.{ceiling_number, count_number, spec_field_number, spec_keyword_number, spec_limit_number, spec_name_number, spec_tag_number}

-- Sizes.
pub length-string : (t : List ℕ) → length (encode_string t) ≡ 2 + length t
unfolding encode_string
length-string t = length-append (word (length t)) t ∙ ap (λ n. n + length t) (length-little_endian 2 (length t))

-- A name is laid out as a String.
pub name-string : (t : List ℕ) → encode_name t ≡ encode_string t
unfolding encode_name encode_string
name-string t = refl

pub length-name : (t : List ℕ) → length (encode_name t) ≡ 2 + length t
length-name t = ap length (name-string t) ∙ length-string t

pub keyword-size : (t : List ℕ) → length (encode_query (keyword t)) ≡ 3 + length t
unfolding encode_query
keyword-size t = length-append (byte 1) (encode_string t) ∙ omega (arith, length-little_endian 1 1, length-string t)

pub field-size : (t n : List ℕ) → length (encode_query (field t n)) ≡ 5 + length t + length n
unfolding encode_query
field-size t n =
    omega (
      arith,
      length-append (byte 2) (encode_string t ++ encode_name n),
      length-append (encode_string t) (encode_name n),
      length-little_endian 1 2,
      length-string t,
      length-name n,
    )

pub limit-size : (v : ℕ) (b : Bound) (n : List ℕ) → length (encode_query (limit v b n)) ≡ 8 + length n
unfolding encode_query
limit-size v b n =
    omega (
      arith,
      length-append (byte 3) (dword v ++ (byte (bound_code b) ++ encode_name n)),
      length-append (dword v) (byte (bound_code b) ++ encode_name n),
      length-append (byte (bound_code b)) (encode_name n),
      length-little_endian 1 3,
      length-little_endian 4 v,
      length-little_endian 1 (bound_code b),
      length-name n,
    )

-- The type and the name of a tag.
pub head-size : (code : ℕ) (n : List ℕ) → length (byte code ++ encode_name n) ≡ 3 + length n
head-size code n = omega (arith, length-append (byte code) (encode_name n), length-little_endian 1 code, length-name n)

pub number-tag-size : (code : ℕ) (n : List ℕ) (v : ℕ) → length (byte code ++ (encode_name n ++ dword v)) ≡ 7 + length n
number-tag-size code n v =
    omega (arith, length-append (byte code) (encode_name n ++ dword v), length-append (encode_name n) (dword v), length-little_endian 1 code, length-name n, length-little_endian 4 v)

-- Lengths of pieces with no fault.
or-six : (t : Bool) (next : ℕ) → 0 ≡ pick t next 6 → (t ≡ true) × (0 ≡ next)
or-six true next e = (refl, e)
or-six false next e = absurd (omega arith)

pub count_fits : (n next : ℕ) → 0 ≡ count_number n next → (n < 65536) × (0 ≡ next)
count_fits n next e = let h = or-six (leb n 65535) next e in (omega (arith, leb-true n 65535 h.0), h.1)

pub ceiling-fits : (n next : ℕ) → 0 ≡ ceiling_number n next → (n ≤ 65536) × (0 ≡ next)
ceiling-fits n next e = let h = or-six (leb n 65536) next e in (leb-true n 65536 h.0, h.1)

pub keyword-fits : (t : ℕ) → 0 ≡ spec_keyword_number t → (t < 65536) × (3 + t ≤ 65536)
unfolding spec_keyword_number
keyword-fits t e = let a = count_fits t _ e in (a.0, (ceiling-fits (3 + t) _ a.1).0)

pub field_fits : (t n : ℕ) → 0 ≡ spec_field_number t n → (t < 65536) × ((n < 65536) × (5 + t + n ≤ 65536))
unfolding spec_field_number
field_fits t n e =
    let a = count_fits t _ e in
    let b = count_fits n _ a.1 in
    (a.0, (b.0, (ceiling-fits (5 + t + n) _ b.1).0))

pub limit-fits : (n : ℕ) → 0 ≡ spec_limit_number n → (n < 65536) × (8 + n ≤ 65536)
unfolding spec_limit_number
limit-fits n e = let a = count_fits n _ e in (a.0, (ceiling-fits (8 + n) _ a.1).0)

pub tag_fits : (n t : ℕ) → 0 ≡ spec_tag_number n t → (n < 65536) × (t < 65536)
unfolding spec_tag_number
tag_fits n t e = let a = count_fits n _ e in (a.0, (count_fits t _ a.1).0)

-- The numbers, one check after the other: `J` is what they are checked by, be it for a query or for a single item.
module _ (J : ℕ → Type 0) (n : ℕ) where
  pub count-judged : (next : ℕ) → ((n < 65536 → ⊥) → J 6) → (n < 65536 → J next) → J (count_number n next)
  count-judged next over j = go (leb n 65535) refl
    where
      go : (t : Bool) → leb n 65535 ≡ t → J (pick t next 6)
      go true e = let h = leb-true n 65535 e in j (omega arith)
      go false e = let h = leb-false n 65535 e in over (λ k. omega arith)

  pub name-judged : ((rule : Rule) → check_name_length n ≡ violates rule → J (number rule)) → (1 ≤ n → n ≤ 255 → J 0) → J (spec_name_number n)
  name-judged bad good = go (eqb n 0) refl
    where
      long : eqb n 0 ≡ false → (t : Bool) → leb n 255 ≡ t → J (pick t 0 6)
      long z true e = let k = eqb-false n 0 z in good (omega arith) (leb-true n 255 e)
      long z false e = bad name_ceiling (rw (z, e) refl)

      go : (t : Bool) → eqb n 0 ≡ t → J (pick t 5 (pick (leb n 255) 0 6))
      go true e = bad choice (rw e refl)
      go false e = long e (leb n 255) refl
