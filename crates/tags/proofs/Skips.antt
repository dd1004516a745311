-- Laws of skipping a tag: where it and its parts end when they lie there.
use Prim.Native.Nat.{ℕ, ◌+◌, ◌*◌, ◌≤◌, ◌<◌}
use mathlib.Core.Path.{◌≡◌, refl, sym, ap, ◌∙◌}
use mathlib.Core.Bool.{Bool, true, false}
use mathlib.Core.Logic.{inl, inr}
use mathlib.Core.Option.{some}
use mathlib.Core.List.{List}
use native.Mathlib.Omega.{arith}
use lib.ListN.{length, get_or}
use borrow.Author.Tests.{eqb-false, eqb-true, le-leb, ne_eqb}
use lib.Dec.{eqb}
use Rattle.format.specs.Tables.{lookup, pick}
use Rattle.format.specs.Messages.{TagType, dword_type, float_type, hash_type, string_type}
use Rattle.format.specs.Layout.{type_code}
use Rattle.format.specs.Decoding.{Outcome, and_then, decode_run, ends, got, pure, refused}
use Rattle.format.specs.Order.{decode_code, decode_dword, decode_hash, decode_name, decode_string, decode_tag, decode_type, decode_value_of, tag_types}
use Rattle.format.proofs.Codec.{never}
use Rattle.format.proofs.There.{byte-there, dword-there, run-there, value-is, word-there}
use Rattle.wire.proofs.Loops.{ended-got}
use Rattle.tags.specs.Skips.{EndsThere, spec_own_size, offset_after, spec_text_size, value_size}

run_ends : (s : List ℕ) (at n : ℕ) → at + n ≤ length s → ends (decode_run n s at) ≡ got tt (at + n)
unfolding ends
run_ends s at n h = rw (← run-there s at n h) refl

dword-ends : (s : List ℕ) (at : ℕ) → at + 4 ≤ length s → ends (decode_dword s at) ≡ got tt (at + 4)
unfolding ends
dword-ends s at h = rw (← dword-there s at h) refl

-- A value ends with its bytes.
value-ends : (t : TagType) (s : List ℕ) (at n : ℕ) → n ≡ get_or s at 0 + 256 * get_or s (at + 1) 0 → at + value_size t n ≤ length s →
    ends (decode_value_of t s at) ≡ got tt (at + value_size t n)
unfolding ends decode_hash decode_string
value-ends hash_type s at n e h = run_ends s at 16 h
value-ends string_type s at n e h =
    let after : at + 2 + n ≡ at + (n + 2) = omega arith in
    rw (← word-there s at (omega arith), ← e, ← run-there s (at + 2) n (omega arith), after) refl
value-ends dword_type s at n e h = dword-ends s at h
value-ends float_type s at n e h = dword-ends s at h

-- The codes from 1 to 4 are those of the types.
typed : (code : ℕ) → 0 < code → code ≤ 4 → (t : TagType) × (type_code t ≡ code)
typed code low high = go (eqb code 1) refl (eqb code 2) refl (eqb code 3) refl
  where
    four : (code ≡ 1 → ⊥) → (code ≡ 2 → ⊥) → (code ≡ 3 → ⊥) → 4 ≡ code
    four a b c = omega (arith, low, high, a, b, c)

    go : (a : Bool) → eqb code 1 ≡ a → (b : Bool) → eqb code 2 ≡ b → (c : Bool) → eqb code 3 ≡ c → (t : TagType) × (type_code t ≡ code)
    go true p b q c r = (hash_type, sym (eqb-true code 1 p))
    go false p true q c r = (string_type, sym (eqb-true code 2 q))
    go false p false q true r = (dword_type, sym (eqb-true code 3 r))
    go false p false q false r = (float_type, four (eqb-false code 1 p) (eqb-false code 2 q) (eqb-false code 3 r))

listed : (t : TagType) → lookup tag_types (type_code t) ≡ some t
listed hash_type = refl
listed string_type = refl
listed dword_type = refl
listed float_type = refl

-- What a tag has beside its name is its head and its value.
sized : (t : TagType) (n : ℕ) → spec_own_size (type_code t) + spec_text_size (type_code t) n ≡ 3 + value_size t n
sized hash_type n = refl
sized string_type n = omega arith
sized dword_type n = refl
sized float_type n = refl

sized-by : (t : TagType) (code n : ℕ) → type_code t ≡ code → spec_own_size code + spec_text_size code n ≡ 3 + value_size t n
sized-by t code n e = rw (← e) (sized t n)

pub own-fits : (code : ℕ) → spec_own_size code ≤ 19
own-fits code = go (eqb code 2) (eqb code 1)
  where
    go : (a b : Bool) → pick a 5 (pick b 19 7) ≤ 19
    go true b = omega arith
    go false true = omega arith
    go false false = omega arith

pub text-fits : (code n : ℕ) → spec_text_size code n ≤ n
text-fits code n = go (eqb code 2)
  where
    go : (a : Bool) → pick a n 0 ≤ n
    go true = omega arith
    go false = omega arith

-- A tag whose type is listed and whose name is lawful and there ends where its value does.
module _ (s : List ℕ) (at n : ℕ) (t : TagType) (is : type_code t ≡ get_or s at 0) (e : n ≡ get_or s (at + 1) 0 + 256 * get_or s (at + 2) 0)
    (some_bytes : n ≡ 0 → ⊥) (few : n ≤ 255) (h : at + 3 + n ≤ length s) where
  ends_with : {r : ℕ} → ends (decode_value_of t s (at + 3 + n)) ≡ got tt r → ends (decode_tag s at) ≡ got tt r
  unfolding ends decode_tag decode_type decode_code decode_name
  ends_with v =
      let name-at : at + 1 + 2 ≡ at + 3 = omega arith in
      let high : at + 1 + 1 ≡ at + 2 = omega arith in
      let value = ended-got (decode_value_of t s (at + 3 + n)) (sym v) in
      rw (
        ← byte-there s at (omega arith),
        ← is,
        listed t,
        ← word-there s (at + 1) (omega arith),
        high,
        ← e,
        ne_eqb n 0 some_bytes,
        le-leb n 255 few,
        name-at,
        ← run-there s (at + 3) n h,
        value-is t s (at + 3 + n),
        ← value.1,
      )
      refl

-- A tag of such a type and name ends with its bytes.
pub tag-ends : (s : List ℕ) (at n code : ℕ) → code ≡ get_or s at 0 → 0 < code → code ≤ 4 → n ≡ get_or s (at + 1) 0 + 256 * get_or s (at + 2) 0 → (n ≡ 0 → ⊥) → n ≤ 255 →
    {own text : ℕ} → own ≡ spec_own_size code → text ≡ spec_text_size code (get_or s (at + 3 + n) 0 + 256 * get_or s (at + 3 + n + 1) 0) → at + n + own + text ≤ length s →
    EndsThere (ends (decode_tag s at)) (at + n + own + text)
tag-ends s at n code is low high e some_bytes few {own} {text} o x h =
    let t = typed code low high in
    let word = get_or s (at + 3 + n) 0 + 256 * get_or s (at + 3 + n + 1) 0 in
    let whole : own + text ≡ 3 + value_size t.0 word = rw (o, x) (sized-by t.0 code word t.1) in
    let end : at + 3 + n + value_size t.0 word ≡ at + n + own + text = omega (arith, whole) in
    inr (ends_with s at n t.0 (t.1 ∙ is) e some_bytes few (omega (arith, h, end)) (rw (← end) (value-ends t.0 s (at + 3 + n) word refl (omega (arith, h, end)))))

-- What ends there has that offset after it; and what has an offset after it ends there.
pub end-is-after : {A : Type 0} (o : Outcome A) {r : ℕ} → EndsThere (ends o) r → (r ≡ 0 → ⊥) → r ≡ offset_after o
end-is-after o (inl z) other = absurd (other z)
end-is-after o (inr e) other = rw (← (ended-got o (sym e)).1) refl

pub after-is-end : {A : Type 0} (o : Outcome A) {r : ℕ} → r ≡ offset_after o → EndsThere (ends o) r
unfolding ends
after-is-end (refused f) e = inl e
after-is-end (got a next) e = inr (ap (got tt) (sym e))

-- An offset that is not 0 is where it ends.
pub told : {o : Outcome (Unit {0})} {r : ℕ} → EndsThere o r → (r ≡ 0 → ⊥) → got tt r ≡ o
told (inl z) other = absurd (other z)
told (inr e) other = sym e

-- What ends with an item ends where the item does.
pub ends-after : {A B : Type 0} (s : List ℕ) (o : Outcome A) (f : A → B) {r : ℕ} → EndsThere (ends o) r → EndsThere (ends (and_then s o (λ a. pure (f a)))) r
unfolding ends
ends-after s o f (inl z) = inl z
ends-after s (refused x) f (inr e) = absurd (never e)
ends-after s (got a next) f (inr e) = inr e
