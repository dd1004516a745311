-- The tests of a query's truth say what its truth in plain words says.
use mathlib.Core.Path.{◌≡◌, refl, sym, ap, ap₂, ◌∙◌}
use mathlib.Core.Bool.{Bool, true, false}
use mathlib.Core.Logic.{◌↔◌, ◌⊎◌, inl, inr}
use mathlib.Core.List.{List, [], ◌∷◌, ◌++◌}
use Prim.Native.Nat.{ℕ}
use lib.Dec.{eqb}
use borrow.Author.Tests.{le-leb, leb-true, eqb-true, eq-eqb}
use Rattle.format.specs.Tables.{pick, same}
use Rattle.format.specs.Messages.{TagType, hash_type, string_type, dword_type, float_type, TagValue, Tag, Operator, and, or, and_not, Bound, at_least, at_most, Query, join, keyword, field, limit}
use Rattle.format.specs.Truth.{Some, Occurs, StringTag, DwordTag, Within, Both, Holds, some, prefix, occurs, on_string, on_dword, string_tag, dword_tag, within, combine, holds}
use Rattle.format.proofs.Differ.{differ}
use Rattle.format.proofs.PartTags.{no_true, both_true, either-test, same_true, same_refl}

-- A test is exact for a property.
abbrev Exactly : Bool → Type 0 → Type 0
Exactly t P = (t ≡ true) ↔ P

either_true : (a b : Bool) → pick a true b ≡ true → (a ≡ true) ⊎ (b ≡ true)
either_true true b e = inl refl
either_true false b e = inr e

false_of : (t : Bool) → (t ≡ true → ⊥) → t ≡ false
false_of true h = absurd (h refl)
false_of false h = refl

module _ {A : Type 0} {p : A → Bool} {P : A → Type 0} (each : (a : A) → Exactly (p a) (P a)) where
  some-exactly : (l : List A) → Exactly (some p l) (Some P l)
  some-exactly [] = (λ e. absurd (no_true e), λ h. absurd h)
  some-exactly (a ∷ l) = (λ e. there (either_true (p a) (some p l) e) (some-exactly l), λ h. back h (some-exactly l))
    where
      there : (p a ≡ true) ⊎ (some p l ≡ true) → Exactly (some p l) (Some P l) → P a ⊎ Some P l
      there (inl e) r = inl ((each a).0 e)
      there (inr e) r = inr (r.0 e)

      back : P a ⊎ Some P l → Exactly (some p l) (Some P l) → pick (p a) true (some p l) ≡ true
      back (inl h) r = rw ((each a).1 h)
      back (inr h) r = either-test (p a) (λ e. rw e) (λ e. rw e (r.1 h))

-- A keyword occurs in a text.
prefix-exactly : (t s : List ℕ) → Exactly (prefix t s) ((after : List ℕ) × (s ≡ t ++ after))
unfolding prefix
prefix-exactly [] s = (λ e. (s, refl), λ h. refl)
prefix-exactly (a ∷ t) [] = (λ e. absurd (no_true e), λ h. let e = h.1 in differ cc)
prefix-exactly (a ∷ t) (b ∷ s) = (
  λ e.
      let x = both_true (eqb a b) (prefix t s) e in
      let y = (prefix-exactly t s).0 x.1 in
      (y.0, ap₂ (λ b s. b ∷ s) (sym (eqb-true a b x.0)) y.1),
  λ h.
      let e = h.1 in
      let q : a ≡ b = cc in
      let r : s ≡ t ++ h.0 = cc in
      rw (eq-eqb a b q, (prefix-exactly t s).1 (h.0, r)),
)

occurs-exactly : (t s : List ℕ) → Exactly (occurs t s) (Occurs t s)
unfolding occurs
occurs-exactly t [] = (
  λ e. let x = (prefix-exactly t []).0 e in record { before = []; after = x.0; here = x.1 },
  λ h. (prefix-exactly t []).1 (h.after, none h.before h.here),
)
  where
    none : (before : List ℕ) {l : List ℕ} → [] ≡ before ++ l → [] ≡ l
    none [] e = e
    none (b ∷ before) e = differ cc
occurs-exactly t (b ∷ s) = (λ e. there (either_true (prefix t (b ∷ s)) (occurs t s) e) (occurs-exactly t s), λ h. back h.before h.after h.here (occurs-exactly t s))
  where
    there : (prefix t (b ∷ s) ≡ true) ⊎ (occurs t s ≡ true) → Exactly (occurs t s) (Occurs t s) → Occurs t (b ∷ s)
    there (inl e) r = let x = (prefix-exactly t (b ∷ s)).0 e in record { before = []; after = x.0; here = x.1 }
    there (inr e) r = let x = r.0 e in record { before = b ∷ x.before; after = x.after; here = ap (λ s. b ∷ s) x.here }

    back : (before after : List ℕ) → b ∷ s ≡ before ++ (t ++ after) → Exactly (occurs t s) (Occurs t s) → pick (prefix t (b ∷ s)) true (occurs t s) ≡ true
    back [] after e r = rw ((prefix-exactly t (b ∷ s)).1 (after, e))
    back (a ∷ before) after e r =
        let q : s ≡ before ++ (t ++ after) = cc in
        let o : occurs t s ≡ true = r.1 (record { before = before; after = after; here = q }) in
        either-test (prefix t (b ∷ s)) (λ f. rw f) (λ f. rw f o)

-- Tags by name and type.
same-exactly : (k l : List ℕ) → Exactly (same k l) (k ≡ l)
same-exactly k l = (same_true k l, λ e. ap (λ l. same k l) (sym e) ∙ same_refl k)

module _ {p : List ℕ → Bool} {P : List ℕ → Type 0} (each : (v : List ℕ) → Exactly (p v) (P v)) (name : List ℕ) where
  on-string : (n : List ℕ) → n ≡ name → (t : TagType) (v : TagValue t) → on_string p t v ≡ true → StringTag name P (record { name = n; value = (t, v) })
  on-string n q hash_type v e = absurd (no_true e)
  on-string n q string_type v e = (v, (ap (λ n. record { name = n; value = (string_type, v) }) q, (each v).0 e))
  on-string n q dword_type v e = absurd (no_true e)
  on-string n q float_type v e = absurd (no_true e)

  string-exactly : (t : Tag) → Exactly (string_tag name p t) (StringTag name P t)
  unfolding string_tag
  string-exactly t = (
    λ e.
        let x = both_true (same t.name name) (on_string p t.value.0 t.value.1) e in
        on-string t.name (same_true t.name name x.0) t.value.0 t.value.1 x.1,
    λ h. ap (λ t. pick (same t.name name) (on_string p t.value.0 t.value.1) false) h.1.0 ∙ rw (same_refl name) ((each h.0).1 h.1.1),
  )

module _ {p : ℕ → Bool} {P : ℕ → Type 0} (each : (v : ℕ) → Exactly (p v) (P v)) (name : List ℕ) where
  on-dword : (n : List ℕ) → n ≡ name → (t : TagType) (v : TagValue t) → on_dword p t v ≡ true → DwordTag name P (record { name = n; value = (t, v) })
  on-dword n q hash_type v e = absurd (no_true e)
  on-dword n q string_type v e = absurd (no_true e)
  on-dword n q dword_type v e = (v, (ap (λ n. record { name = n; value = (dword_type, v) }) q, (each v).0 e))
  on-dword n q float_type v e = absurd (no_true e)

  dword-exactly : (t : Tag) → Exactly (dword_tag name p t) (DwordTag name P t)
  unfolding dword_tag
  dword-exactly t = (
    λ e.
        let x = both_true (same t.name name) (on_dword p t.value.0 t.value.1) e in
        on-dword t.name (same_true t.name name x.0) t.value.0 t.value.1 x.1,
    λ h. ap (λ t. pick (same t.name name) (on_dword p t.value.0 t.value.1) false) h.1.0 ∙ rw (same_refl name) ((each h.0).1 h.1.1),
  )

within-exactly : (b : Bound) (number n : ℕ) → Exactly (within b number n) (Within b number n)
within-exactly at_least number n = (leb-true number n, le-leb number n)
within-exactly at_most number n = (leb-true n number, le-leb n number)

-- Operators
combine-exactly : (o : Operator) (a b : Bool) {P Q : Type 0} → Exactly a P → Exactly b Q → Exactly (combine o a b) (Both o P Q)
combine-exactly and a b h k = (λ e. let x = both_true a b e in (h.0 x.0, k.0 x.1), λ x. rw (h.1 x.0, k.1 x.1))
combine-exactly or a b {P} {Q} h k = (λ e. there (either_true a b e), back)
  where
    there : (a ≡ true) ⊎ (b ≡ true) → P ⊎ Q
    there (inl e) = inl (h.0 e)
    there (inr e) = inr (k.0 e)

    back : P ⊎ Q → pick a true b ≡ true
    back (inl x) = rw (h.1 x)
    back (inr x) = either-test a (λ e. rw e) (λ e. rw e (k.1 x))
combine-exactly and_not a b {P} {Q} h k = (
  λ e. let x = both_true a (pick b false true) e in (h.0 x.0, λ q. no_true (ap (λ b. pick b false true) (sym (k.1 q)) ∙ x.1)),
  λ x. rw (h.1 x.0, false_of b (λ e. x.1 (k.0 e))),
)

-- The truth of a query.
pub holds-exactly : (q : Query) (tags : List Tag) → Exactly (holds q tags) (Holds q tags)
unfolding holds Holds
holds-exactly (join o q r) tags = combine-exactly o (holds q tags) (holds r tags) (holds-exactly q tags) (holds-exactly r tags)
holds-exactly (keyword text) tags = some-exactly (string-exactly (occurs-exactly text) (0x01 ∷ [])) tags
holds-exactly (field text name) tags = some-exactly (string-exactly (λ v. same-exactly v text) name) tags
holds-exactly (limit number bound name) tags = some-exactly (dword-exactly (within-exactly bound number) name) tags
