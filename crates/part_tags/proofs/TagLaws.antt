-- What the bytes of a tag that was decoded say of it: its name, its number, where it ends; and so what it is to the gaps.
use Prim.Native.Nat.{ℕ, suc, ◌+◌, ◌-◌, ◌*◌, ◌≤◌}
use mathlib.Core.Path.{◌≡◌, refl, sym, ap, ◌∙◌}
use mathlib.Core.Bool.{Bool, true, false}
use mathlib.Core.Option.{Option, none, some}
use mathlib.Core.List.{List, ◌∷◌}
use native.Mathlib.Omega.{arith}
use lib.ListN.{length, get_or}
use lib.Dec.{leb, ltb, eqb}
use borrow.Author.Tests.{eqb-true, eqb-false, leb-true, ltb-true, ltb-false, eq-eqb, ne_eqb}
use Rattle.std.specs.Prelude.{Ok, Err, IsErr}
use Rattle.format.specs.Tables.{lookup, pick}
use Rattle.format.specs.Messages.{Tag, TagType, TagValue, dword_type, float_type, hash_type, string_type}
use Rattle.format.specs.Decoding.{Outcome, refused, got, bytes_at, checked, choice, found, name_ceiling, passes, settled, violates}
use Rattle.format.specs.GapTags.{plain, starting, ending, number_of, role}
use Rattle.format.specs.Order.{check_name_length, decode_byte, decode_code, decode_dword, decode_hash, decode_name, decode_string, decode_tag, decode_type, decode_value, decode_word, tag_types}
use Rattle.format.specs.PutGaps.{is_plain}
use Rattle.format.proofs.Differ.{differ}
use Rattle.format.proofs.Codec.{never, same_place, same-value, went}
use Rattle.format.proofs.There.{byte-ends, byte-there, dword-ends, part-cons, run-was, word-ends, word-there}
use Rattle.wire.specs.WireAnswers.{Step}
use Rattle.tags.specs.declared.Tag.{Tag as TagPlace}
use Rattle.tags.specs.TagAnswers.{tag_meaning}
use Rattle.tags.specs.Skips.{offset_after}
use Rattle.part_tags.specs.TagBytes.{TagThere, spec_dword_at, dword_of, spec_name_length, spec_digits_at, number_at, after_at, role_at}

-- The type
abbrev is_dword : TagType → Bool
is_dword hash_type = false
is_dword string_type = false
is_dword dword_type = true
is_dword float_type = false

option-same : {A : Type 0} {x y : A} → some x ≡ some y → x ≡ y
option-same e = cc

code_is : (b : ℕ) (t : TagType) → lookup tag_types b ≡ some t → eqb b 3 ≡ is_dword t
code_is b t = go (eqb b 1) refl (eqb b 2) refl (eqb b 3) refl (eqb b 4)
  where
    go : (p : Bool) → eqb b 1 ≡ p → (q : Bool) → eqb b 2 ≡ q → (r : Bool) → eqb b 3 ≡ r → (u : Bool) →
        pick p (some hash_type) (pick q (some string_type) (pick r (some dword_type) (pick u (some float_type) none))) ≡ some t → r ≡ is_dword t
    go true e q f true g u h = absurd (omega (arith, eqb-true b 1 e, eqb-true b 3 g))
    go true e q f false g u h = ap is_dword (option-same h)
    go false e true f true g u h = absurd (omega (arith, eqb-true b 2 f, eqb-true b 3 g))
    go false e true f false g u h = ap is_dword (option-same h)
    go false e false f true g u h = ap is_dword (option-same h)
    go false e false f false g true h = ap is_dword (option-same h)
    go false e false f false g false h = differ cc

found_some : {K : Type 0} (o : Option K) (at : ℕ) {k : K} {m n : ℕ} → settled at 1 (found choice o) m ≡ got k n → (o ≡ some k) × (m ≡ n)
found_some none at e = absurd (never e)
found_some (some j) at e = (ap some (same-value e), same_place e)

type_at : (s : List ℕ) (at : ℕ) {t : TagType} {next : ℕ} → decode_type s at ≡ got t next → (next ≡ at + 1) × (eqb (get_or s at 0) 3 ≡ is_dword t)
unfolding decode_type decode_code
type_at s at {t} e =
    let w = went s (decode_byte s at) e in
    let b = byte-ends s at w.was in
    let v : w.first ≡ get_or s at 0 = same-value (sym w.was ∙ sym (byte-there s at b.0)) in
    let x = found_some (lookup tag_types w.first) at w.then in
    (sym x.1 ∙ b.1, code_is (get_or s at 0) t (ap (lookup tag_types) (sym v) ∙ x.0))

-- The name
length-passes : (k at m : ℕ) {n next : ℕ} → settled at 2 (check_name_length k) m ≡ got n next → (1 ≤ k) × ((k ≤ 255) × ((k ≡ n) × (m ≡ next)))
length-passes k at m {n} {next} = go (eqb k 0) refl (leb k 255) refl
  where
    go : (a : Bool) → eqb k 0 ≡ a → (b : Bool) → leb k 255 ≡ b → settled at 2 (pick a (violates choice) (pick b (passes k) (violates name_ceiling))) m ≡ got n next → (1 ≤ k) × ((k ≤ 255) × ((k ≡ n) × (m ≡ next)))
    go true p b q e = absurd (never e)
    go false p false q e = absurd (never e)
    go false p true q e = (omega (arith, eqb-false k 0 p), (leb-true k 255 q, (same-value e, same_place e)))

-- a name that begins after the byte at `at`
module _ (s : List ℕ) (at m : ℕ) (is : m ≡ at + 1) where
  abbrev size : ℕ
  size = spec_name_length s at

  name-at : {name : List ℕ} {next : ℕ} → decode_name s m ≡ got name next
      → (1 ≤ size) × ((size ≤ 255) × ((at + 3 + size ≤ length s) × ((next ≡ at + 3 + size) × (name ≡ get_or s (at + 3) 0 ∷ spec_digits_at s at))))
  unfolding decode_name
  name-at {name} {next} e =
      let w = went s (checked 2 check_name_length decode_word s m) e in
      let v = went s (decode_word s m) w.was in
      let b = word-ends s m v.was in
      let k : v.first ≡ get_or s m 0 + 256 * get_or s (m + 1) 0 = same-value (sym v.was ∙ sym (word-there s m b.0)) in
      let p = length-passes v.first m v.mid v.then in
      let r = run-was s w.mid w.first w.then in
      let low : get_or s m 0 ≡ size = ap (λ j. get_or s j 0) is in
      let n : w.first ≡ suc (size - 1) = omega (arith, k, p.0, p.1.0, p.1.1.0, low) in
      let at3 : w.mid ≡ at + 3 = omega (arith, is, b.1, p.1.1.1) in
      let at4 : at + 3 + 1 ≡ at + 4 = omega arith in
      let one : 1 ≤ size = omega (arith, k, p.0, p.1.0, low) in
      let inside : at + 3 + size ≤ length s = omega (arith, n, at3, r.0, one) in
      let cons = part-cons s (at + 3) (size - 1) (omega (arith, inside, one)) in (
        one,
        (
          omega (arith, k, p.1.0, low),
          (inside, (omega (arith, n, at3, r.1.0, one), r.1.1 ∙ ap (λ j. bytes_at s j w.first) at3 ∙ ap (bytes_at s (at + 3)) n ∙ cons ∙ ap (λ j. get_or s (at + 3) 0 ∷ bytes_at s j (size - 1)) at4)),
        ),
      )

-- The value
value-at : (t : TagType) (s : List ℕ) (at : ℕ) {v : (t : TagType) × TagValue t} {next : ℕ} → decode_value t s at ≡ got v next
    → (number_of v.0 v.1 ≡ pick (is_dword t) (some (spec_dword_at s at)) none) × ((at ≤ next) × (is_dword t ≡ true → (next ≡ at + 4) × (at + 4 ≤ length s)))
unfolding decode_value decode_hash decode_string
value-at hash_type s at e =
    let w = went s (decode_hash s at) e in
    let r = run-was s at 16 w.was in
    (ap (λ v. number_of v.0 v.1) (sym (same-value w.then)), (omega (arith, r.1.0, same_place w.then), λ h. differ cc))
value-at string_type s at e =
    let w = went s (decode_string s at) e in
    let n = went s (decode_word s at) w.was in
    let r = run-was s n.mid n.first n.then in
    (ap (λ v. number_of v.0 v.1) (sym (same-value w.then)), (omega (arith, word-ends s at n.was, r.1.0, same_place w.then), λ h. differ cc))
value-at dword_type s at e =
    let w = went s (decode_dword s at) e in
    let d = dword-ends s at w.was in (
      ap (λ v. number_of v.0 v.1) (sym (same-value w.then)) ∙ ap some (ap dword_of (sym w.was)),
      (omega (arith, d, same_place w.then), λ h. (sym (same_place w.then) ∙ d.1, d.0)),
    )
value-at float_type s at e =
    let w = went s (decode_dword s at) e in
    (ap (λ v. number_of v.0 v.1) (sym (same-value w.then)), (omega (arith, dword-ends s at w.was, same_place w.then), λ h. differ cc))

-- The tag
pub record TagAt (s : List ℕ) (at : ℕ) (t : Tag) (next : ℕ) : Type 0 where
  pub some-name : 1 ≤ spec_name_length s at
  pub few : spec_name_length s at ≤ 255
  pub inside : at + 3 + spec_name_length s at ≤ length s
  pub name : t.name ≡ get_or s (at + 3) 0 ∷ spec_digits_at s at
  pub number : number_of t.value.0 t.value.1 ≡ pick (eqb (get_or s at 0) 3) (some (number_at s at)) none
  pub after : at + 3 + spec_name_length s at ≤ next
  pub ends : eqb (get_or s at 0) 3 ≡ true → (next ≡ after_at s at) × (after_at s at ≤ length s)

pub tag_at : (s : List ℕ) (at : ℕ) {t : Tag} {next : ℕ} → decode_tag s at ≡ got t next → TagAt s at t next
unfolding decode_tag
tag_at s at {t} {next} e =
    let a = went s (decode_type s at) e in
    let b = went s (decode_name s a.mid) a.then in
    let c = went s (decode_value a.first s b.mid) b.then in
    let type = type_at s at a.was in
    let name = name-at s at a.mid type.0 b.was in
    let there = name.1.1.1.0 in
    let value = value-at a.first s b.mid c.was in
    let tag = same-value c.then in
    let end = same_place c.then in
    let dword = ap (λ j. pick (is_dword a.first) (some (spec_dword_at s j)) none) there in
    record {
      some-name = name.0;
      few = name.1.0;
      inside = name.1.1.0;
      name = ap (λ t. t.name) (sym tag) ∙ name.1.1.1.1;
      number = ap (λ t. number_of t.value.0 t.value.1) (sym tag) ∙ value.0 ∙ dword ∙ ap (λ t. pick t (some (number_at s at)) none) (sym type.1);
      after = omega (arith, there, value.1.0, end);
      ends = λ h. let x = value.1.1 (sym type.1 ∙ h) in (omega (arith, x.0, there, end), omega (arith, x.1, there));
    }

-- A tag that is refused has no offset after it; one that is there has.
pub is-refused : (s : List ℕ) (at : ℕ) (r : Step TagPlace) → tag_meaning s r ≡ decode_tag s at → offset_after (decode_tag s at) ≡ 0 → IsErr r
is-refused s at (Err f) e z = refl
is-refused s at (Ok (t, c)) e z = absurd (omega (arith, (tag_at s at (sym e)).after, rw (← e) at z))

pub tag-ends : (s : List ℕ) (at : ℕ) → TagThere s at → offset_after (decode_tag s at) ≡ 0 → ⊥
tag-ends s at there zero = omega (arith, (tag_at s at there.1.1).after, sym (ap offset_after there.1.1) ∙ zero)

pub tag-there : (s : List ℕ) (at : ℕ) {after : ℕ} → after ≡ offset_after (decode_tag s at) → (after ≡ 0 → ⊥) → (t : Tag) × (decode_tag s at ≡ got t after)
tag-there s at {after} e other = go (decode_tag s at) refl
  where
    go : (o : Outcome Tag) → decode_tag s at ≡ o → (t : Tag) × (decode_tag s at ≡ got t after)
    go (refused f) q = absurd (other (e ∙ ap offset_after q))
    go (got t next) q = (t, q ∙ ap (got t) (sym (ap offset_after q) ∙ sym e))

pub there-is : (s : List ℕ) (at : ℕ) {after : ℕ} → after ≡ offset_after (decode_tag s at) → (after ≡ 0 → ⊥) → TagThere s at
there-is s at {after} e other = let t = tag-there s at e other in (t.0, (after, t.1))

-- What a tag that is there is to the gaps
module _ (s : List ℕ) (at : ℕ) (there : TagThere s at) where
  abbrev first : ℕ
  first = get_or s (at + 3) 0

  abbrev code : ℕ
  code = get_or s at 0

  abbrev number : Option ℕ
  number = pick (eqb code 3) (some (number_at s at)) none

  pub bytes_of : TagAt s at there.0 there.1.0
  bytes_of = tag_at s at there.1.1

  role-is : role_at (decode_tag s at) ≡ pick (eqb first 0x09) (starting (spec_digits_at s at) number) (pick (eqb first 0x0A) (ending (spec_digits_at s at) number) plain)
  unfolding role
  role-is = rw (there.1.1, bytes_of.name, bytes_of.number) refl

  pub role-other : (first ≡ 0x09 → ⊥) → (first ≡ 0x0A → ⊥) → role_at (decode_tag s at) ≡ plain
  role-other a b = rw (role-is, ne_eqb first 0x09 a, ne_eqb first 0x0A b) refl

  pub role_start : first ≡ 0x09 → role_at (decode_tag s at) ≡ starting (spec_digits_at s at) number
  role_start a = rw (role-is, eq-eqb first 0x09 a) refl

  pub role-end : first ≡ 0x0A → role_at (decode_tag s at) ≡ ending (spec_digits_at s at) number
  role-end a = rw (role-is, ne_eqb first 0x09 (λ e. omega arith), eq-eqb first 0x0A a) refl

  pub dword-number : code ≡ 3 → number ≡ some (number_at s at)
  dword-number e = rw (eq-eqb code 3 e) refl

  pub other-number : (code ≡ 3 → ⊥) → number ≡ none
  other-number e = rw (ne_eqb code 3 e) refl

  -- the test of the first byte
  pub plain-test : 9 ≤ first → ltb 10 first ≡ is_plain (role_at (decode_tag s at))
  plain-test low = go (ltb 10 first) refl (eqb first 9) refl (eqb code 3) refl
    where
      go : (t : Bool) → ltb 10 first ≡ t → (u : Bool) → eqb first 9 ≡ u → (v : Bool) → eqb code 3 ≡ v → t ≡ is_plain (role_at (decode_tag s at))
      go true p u q v r = let h = ltb-true 10 first p in rw (role-other (λ e. omega arith) (λ e. omega arith)) refl
      go false p true q true r = rw (role_start (eqb-true first 9 q), r) refl
      go false p true q false r = rw (role_start (eqb-true first 9 q), r) refl
      go false p false q true r = let h = ltb-false 10 first p in let k = eqb-false first 9 q in rw (role-end (omega arith), r) refl
      go false p false q false r = let h = ltb-false 10 first p in let k = eqb-false first 9 q in rw (role-end (omega arith), r) refl
