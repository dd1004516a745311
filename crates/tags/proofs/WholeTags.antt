-- What the bytes of a tag that lies there tell: its type, the length and the bytes of its name, and where it ends.
use Prim.Native.Nat.{ℕ, ◌+◌, ◌*◌, ◌≤◌}
use mathlib.Core.Path.{◌≡◌, refl, sym, ap, ◌∙◌}
use mathlib.Core.Bool.{Bool, true, false}
use mathlib.Core.Option.{Option, none, some}
use mathlib.Core.List.{List, [], ◌∷◌}
use native.Mathlib.Omega.{arith}
use lib.ListN.{length, get_or}
use lib.Dec.{eqb, leb}
use Rattle.format.specs.Tables.{lookup, pick}
use Rattle.format.specs.Messages.{Tag, TagType, TagValue, hash_type, string_type, dword_type, float_type}
use Rattle.format.specs.Layout.{type_code}
use Rattle.format.specs.Decoding.{Outcome, refused, got, settled, found, passes, violates, choice, name_ceiling, checked, ends, pure, bytes_at, decode_run}
use Rattle.format.specs.Order.{check_name_length, decode_byte, decode_code, decode_hash, decode_name, decode_string, decode_tag, decode_type, decode_value, decode_value_of, decode_word, tag_types}
use Rattle.format.proofs.Codec.{lookup-code, never, same_place, same-value, Went, went}
use Rattle.format.proofs.There.{byte-ends, byte-there, dword-ends, run-was, value-is, word-ends, word-there}
use Rattle.tags.specs.Skips.{Lies, value_size}

-- The parts of a tag, by their bytes.
byte-was : (s : List ℕ) (at : ℕ) {v next : ℕ} → decode_byte s at ≡ got v next → (next ≡ at + 1) × (v ≡ get_or s at 0)
byte-was s at e = let r = byte-ends s at e in (r.1, sym (same-value (byte-there s at r.0 ∙ e)))

word-was : (s : List ℕ) (at : ℕ) {v next : ℕ} → decode_word s at ≡ got v next → (next ≡ at + 2) × (v ≡ get_or s at 0 + 256 * get_or s (at + 1) 0)
word-was s at e = let r = word-ends s at e in (r.1, sym (same-value (word-there s at r.0 ∙ e)))

type-was : (s : List ℕ) (at : ℕ) {k : TagType} {next : ℕ} → decode_type s at ≡ got k next → (next ≡ at + 1) × (type_code k ≡ get_or s at 0)
unfolding decode_type decode_code
type-was s at {k} {next} e =
    let code : Went s (decode_byte s at) (λ b s next. settled at 1 (found choice (lookup tag_types b)) next) k next = went s (decode_byte s at) e in
    let byte = byte-was s at code.was in
    let row = go code.first code.mid (lookup tag_types code.first) refl code.then in
    (row.0 ∙ byte.0, row.1 ∙ byte.1)
  where
    go : (b mid : ℕ) (o : Option TagType) → lookup tag_types b ≡ o → settled at 1 (found choice o) mid ≡ got k next → (next ≡ mid) × (type_code k ≡ b)
    go b mid none l e = absurd (never e)
    go b mid (some j) l e =
        (sym (same_place e), ap type_code (sym (same-value e)) ∙ lookup-code type_code (hash_type ∷ string_type ∷ dword_type ∷ float_type ∷ []) b j l)

length-was : (at n mid : ℕ) {m next : ℕ} → settled at 2 (check_name_length n) mid ≡ got m next → (next ≡ mid) × (m ≡ n)
length-was at n mid {m} {next} e = go (eqb n 0) (leb n 255) e
  where
    go : (a b : Bool) → settled at 2 (pick a (violates choice) (pick b (passes n) (violates name_ceiling))) mid ≡ got m next → (next ≡ mid) × (m ≡ n)
    go true b e = absurd (never e)
    go false true e = (sym (same_place e), sym (same-value e))
    go false false e = absurd (never e)

name-was : (s : List ℕ) (at n : ℕ) {name : List ℕ} {next : ℕ} → n ≡ get_or s at 0 + 256 * get_or s (at + 1) 0 → decode_name s at ≡ got name next →
    (at + 2 + n ≤ length s) × ((next ≡ at + 2 + n) × (name ≡ bytes_at s (at + 2) n))
unfolding decode_name
name-was s at n {name} {next} is e =
    let len : Went s (checked 2 check_name_length decode_word s at) (λ n. decode_run n) name next = went s (checked 2 check_name_length decode_word s at) e in
    let read : Went s (decode_word s at) (λ n s next. settled at 2 (check_name_length n) next) len.first len.mid = went s (decode_word s at) len.was in
    let word = word-was s at read.was in
    let lawful = length-was at read.first read.mid read.then in
    moved-run (lawful.0 ∙ word.0) (lawful.1 ∙ word.1 ∙ sym is) len.then
  where
    moved-run : {mid k : ℕ} → mid ≡ at + 2 → k ≡ n → decode_run k s mid ≡ got name next →
        (at + 2 + n ≤ length s) × ((next ≡ at + 2 + n) × (name ≡ bytes_at s (at + 2) n))
    moved-run p q e = run-was s (at + 2) n (sym (ap (λ k. decode_run k s (at + 2)) q) ∙ sym (ap (decode_run _ s) p) ∙ e)

-- How many bytes a value has, where it lies.
abbrev width : TagType → List ℕ → ℕ → ℕ
width k s at = value_size k (get_or s at 0 + 256 * get_or s (at + 1) 0)

value-spans : (k : TagType) (s : List ℕ) (at : ℕ) {v : TagValue k} {next : ℕ} → decode_value_of k s at ≡ got v next → (at + width k s at ≤ length s) × (next ≡ at + width k s at)
unfolding decode_hash decode_string
value-spans hash_type s at e = let r = run-was s at 16 e in (omega (arith, r.0), omega (arith, r.1.0))
value-spans string_type s at {v} {next} e =
    let len : Went s (decode_word s at) (λ n. decode_run n) v next = went s (decode_word s at) e in
    let word = word-was s at len.was in
    let run = run-was s len.mid len.first len.then in
    (omega (arith, run.0, word.0, word.1), omega (arith, run.1.0, word.0, word.1))
value-spans dword_type s at e = let r = dword-ends s at e in (omega (arith, r.0), omega (arith, r.1))
value-spans float_type s at e = let r = dword-ends s at e in (omega (arith, r.0), omega (arith, r.1))

value-was : (k : TagType) (s : List ℕ) (at : ℕ) {v : (t : TagType) × TagValue t} {next : ℕ} → decode_value k s at ≡ got v next →
    (v.0 ≡ k) × ((at + width k s at ≤ length s) × (next ≡ at + width k s at))
value-was k s at {v} {next} e =
    let value : Went s (decode_value_of k s at) (λ v. pure (k, v)) v next = went s (decode_value_of k s at) (sym (value-is k s at) ∙ e) in
    let span = value-spans k s at value.was in
    (ap (λ v. v.0) (sym (same-value value.then)), (span.0, sym (same_place value.then) ∙ span.1))

-- The type, the name and the value of a tag, and where it ends.
pub record TagWas (s : List ℕ) (at n : ℕ) (t : Tag) (next : ℕ) : Type 0 where
  pub type : TagType
  pub is : t.value.0 ≡ type
  pub code : type_code type ≡ get_or s at 0
  pub name-there : at + 3 + n ≤ length s
  pub name-is : t.name ≡ bytes_at s (at + 3) n
  pub value_there : at + 3 + n + width type s (at + 3 + n) ≤ length s
  pub end : next ≡ at + 3 + n + width type s (at + 3 + n)
  pub value-is : decode_value type s (at + 3 + n) ≡ got t.value next

-- It ends at this offset, which is within the bytes.
abbrev EndsAt : List ℕ → (at r : ℕ) → Type 0
EndsAt s at r = (r ≤ length s) × (ends (decode_tag s at) ≡ got tt r)

module _ (s : List ℕ) (at n : ℕ) (word : n ≡ get_or s (at + 1) 0 + 256 * get_or s (at + 2) 0) where
  tag-was : {t : Tag} {next : ℕ} → decode_tag s at ≡ got t next → TagWas s at n t next
  unfolding decode_tag
  tag-was {t} {next} d =
      let type = went s (decode_type s at) d in
      let name = went s (decode_name s type.mid) type.then in
      let value = went s (decode_value type.first s name.mid) name.then in
      let high : at + 1 + 1 ≡ at + 2 = omega arith in
      let text : at + 1 + 2 ≡ at + 3 = omega arith in
      let listed = type-was s at type.was in
      let named = name-was s (at + 1) n (rw high word) (sym (ap (decode_name s) listed.0) ∙ name.was) in
      let whole : record { name = name.first; value = value.first } ≡ t = same-value value.then in
      let after-name : name.mid ≡ at + 3 + n = omega (arith, named.1.0) in
      let read = sym (ap (decode_value type.first s) after-name) ∙ value.was in
      let valued = value-was type.first s (at + 3 + n) read in
      record {
        type = type.first;
        is = ap (λ t. t.value.0) (sym whole) ∙ valued.0;
        code = listed.1;
        name-there = omega (arith, named.0);
        name-is = ap (λ t. t.name) (sym whole) ∙ named.1.1 ∙ ap (λ from. bytes_at s from n) text;
        value_there = valued.1.0;
        end = sym (same_place value.then) ∙ valued.1.1;
        value-is = read ∙ rw (same_place value.then) (ap (λ t. got t.value next) whole);
      }

  module _ (lies : Lies (decode_tag s at)) where
    -- What holds of the tag that lies there.
    pub on-tag : (P : Outcome Tag → Type 0) → ((t : Tag) (next : ℕ) → TagWas s at n t next → P (got t next)) → P (decode_tag s at)
    on-tag P f = go (decode_tag s at) refl lies
      where
        go : (o : Outcome Tag) → decode_tag s at ≡ o → Lies o → P o
        go (refused x) d l = absurd l
        go (got t next) d l = f t next (tag-was d)

    pub name-lies : at + 3 + n ≤ length s
    name-lies = on-tag (λ o. at + 3 + n ≤ length s) (λ t next w. w.name-there)

    -- Where it ends, by its type.
    ends_by : (r : ℕ) → ((k : TagType) → type_code k ≡ get_or s at 0 → at + 3 + n + width k s (at + 3 + n) ≡ r) → EndsAt s at r
    unfolding ends
    ends_by r f =
        on-tag (λ o. (r ≤ length s) × (ends o ≡ got tt r))
        (λ t next w. let e = f w.type w.code in (omega (arith, w.value_there, e), ap (got tt) (w.end ∙ e)))

    pub text-ends : (m : ℕ) → get_or s at 0 ≡ 2 → m ≡ get_or s (at + 3 + n) 0 + 256 * get_or s (at + 3 + n + 1) 0 → EndsAt s at (at + 3 + n + 2 + m)
    text-ends m is e = ends_by _ (go is e)
      where
        go : get_or s at 0 ≡ 2 → m ≡ get_or s (at + 3 + n) 0 + 256 * get_or s (at + 3 + n + 1) 0 →
            (k : TagType) → type_code k ≡ get_or s at 0 → at + 3 + n + width k s (at + 3 + n) ≡ at + 3 + n + 2 + m
        go is e hash_type c = absurd (omega arith)
        go is e string_type c = omega arith
        go is e dword_type c = absurd (omega arith)
        go is e float_type c = absurd (omega arith)

    pub text-lies : get_or s at 0 ≡ 2 → at + 3 + n + 2 ≤ length s
    text-lies is = let e = text-ends _ is refl in omega (arith, e.0)

    pub hash-ends : get_or s at 0 ≡ 1 → EndsAt s at (at + 3 + n + 16)
    hash-ends is = ends_by _ (go is)
      where
        go : get_or s at 0 ≡ 1 → (k : TagType) → type_code k ≡ get_or s at 0 → at + 3 + n + width k s (at + 3 + n) ≡ at + 3 + n + 16
        go is hash_type c = refl
        go is string_type c = absurd (omega arith)
        go is dword_type c = absurd (omega arith)
        go is float_type c = absurd (omega arith)

    pub other-ends : (get_or s at 0 ≡ 2 → ⊥) → (get_or s at 0 ≡ 1 → ⊥) → EndsAt s at (at + 3 + n + 4)
    other-ends text hash = ends_by _ (go text hash)
      where
        go : (get_or s at 0 ≡ 2 → ⊥) → (get_or s at 0 ≡ 1 → ⊥) → (k : TagType) → type_code k ≡ get_or s at 0 → at + 3 + n + width k s (at + 3 + n) ≡ at + 3 + n + 4
        go text hash hash_type c = absurd (hash (sym c))
        go text hash string_type c = absurd (text (sym c))
        go text hash dword_type c = refl
        go text hash float_type c = refl

pub head-lies : (s : List ℕ) (at : ℕ) → Lies (decode_tag s at) → at + 3 ≤ length s
head-lies s at lies = let h = name-lies s at _ refl lies in omega arith
