-- What the bytes of a tag that lies there tell of its type and its name, and which tags no leaf looks for.
use Prim.Native.Nat.{ℕ, ◌+◌, ◌*◌, ◌<◌}
use mathlib.Core.Path.{◌≡◌, refl, sym, ap, ◌∙◌}
use mathlib.Core.Bool.{Bool, true, false}
use mathlib.Core.List.{List, [], ◌∷◌}
use native.Mathlib.Omega.{arith}
use lib.ListN.{length, get_or, length-take, length-drop}
use lib.Dec.{eqb}
use borrow.Author.Tests.{eq-eqb, ne_eqb}
use Rattle.format.specs.Tables.{pick, same}
use Rattle.format.specs.Messages.{Tag, TagType, TagValue, hash_type, string_type, dword_type, float_type}
use Rattle.format.specs.Layout.{type_code}
use Rattle.format.specs.Decoding.{Outcome, refused, got, bytes_at}
use Rattle.format.specs.Order.{decode_tag}
use Rattle.format.specs.Truth.{on_string, on_dword, prefix, string_tag, dword_tag}
use Rattle.format.proofs.Differ.{differ}
use Rattle.format.proofs.There.{part-cons}
use Rattle.format.proofs.PartTags.{same-lengths}
use Rattle.tags.specs.Skips.{Lies}
use Rattle.tags.proofs.WholeTags.{name-lies, on-tag}
use Rattle.truth.specs.TruthAnswers.{is_of, on_item}
use Rattle.truth.proofs.Texts.{same-prefix}

pick-self : (t : Bool) → t ≡ pick t true false
pick-self true = refl
pick-self false = refl

pick_no : (t : Bool) → false ≡ pick t false false
pick_no true = refl
pick_no false = refl

-- Two names of one byte.
one_byte : (s : List ℕ) (at : ℕ) (name : List ℕ) → at < length s → length name ≡ 1 → eqb (get_or s at 0) (get_or name 0 0) ≡ same (bytes_at s at 1) name
unfolding same
one_byte s at [] h e = absurd (omega arith)
one_byte s at (b ∷ []) h e = rw (part-cons s at 0 h) (pick-self (eqb (get_or s at 0) b))
one_byte s at (b ∷ c ∷ l) h e = absurd (omega arith)

-- The type and the name of a tag, as the tests find them.
module _ (s : List ℕ) (at n : ℕ) (word : n ≡ get_or s (at + 1) 0 + 256 * get_or s (at + 2) 0) (lies : Lies (decode_tag s at)) (code : ℕ) (name : List ℕ) where
  part_length : length (bytes_at s (at + 3) n) ≡ n
  part_length = let h = name-lies s at n word lies in simp (length-take, length-drop) (omega arith)

  pub other-type : (get_or s at 0 ≡ code → ⊥) → false ≡ on_item (is_of code name) (decode_tag s at)
  unfolding is_of
  other-type other = on-tag s at n word lies (λ o. false ≡ on_item (is_of code name) o) (λ t next w. rw (w.is, w.code, ne_eqb _ _ other) refl)

  other_name : same (bytes_at s (at + 3) n) name ≡ false → false ≡ on_item (is_of code name) (decode_tag s at)
  unfolding is_of
  other_name e = on-tag s at n word lies (λ o. false ≡ on_item (is_of code name) o) (λ t next w. rw (w.is, w.code, w.name-is, e) (pick_no (eqb (get_or s at 0) code)))

  by_name : get_or s at 0 ≡ code → same (bytes_at s (at + 3) n) name ≡ on_item (is_of code name) (decode_tag s at)
  unfolding is_of
  by_name this = on-tag s at n word lies (λ o. same (bytes_at s (at + 3) n) name ≡ on_item (is_of code name) o) (λ t next w. rw (w.is, w.code, eq-eqb _ _ this, w.name-is) refl)

  -- a name of another length, or another byte as the name
  pub other_length : (n ≡ length name → ⊥) → false ≡ on_item (is_of code name) (decode_tag s at)
  other_length other = other_name (same-lengths _ _ (λ z. other (sym part_length ∙ z)))

  named : n ≡ 1 → length name ≡ 1 → eqb (get_or s (at + 3) 0) (get_or name 0 0) ≡ same (bytes_at s (at + 3) n) name
  named one is =
      let h = name-lies s at n word lies in
      one_byte s (at + 3) name (omega arith) is ∙ ap (λ n. same (bytes_at s (at + 3) n) name) (sym one)

  pub other_byte : n ≡ 1 → length name ≡ 1 → (get_or s (at + 3) 0 ≡ get_or name 0 0 → ⊥) → false ≡ on_item (is_of code name) (decode_tag s at)
  other_byte one is other = other_name (sym (named one is) ∙ ne_eqb _ _ other)

  pub by-type : n ≡ 1 → length name ≡ 1 → get_or s (at + 3) 0 ≡ get_or name 0 0 → eqb (get_or s at 0) code ≡ on_item (is_of code name) (decode_tag s at)
  unfolding is_of
  by-type one is this =
      let e = sym (named one is) ∙ eq-eqb _ _ this in
      on-tag s at n word lies (λ o. eqb (get_or s at 0) code ≡ on_item (is_of code name) o) (λ t next w. rw (w.is, w.code, w.name-is, e) (pick-self (eqb (get_or s at 0) code)))

  pub by-prefix : get_or s at 0 ≡ code → n ≡ length name → prefix (bytes_at s (at + 3) n) name ≡ on_item (is_of code name) (decode_tag s at)
  by-prefix this is = same-prefix _ _ (part_length ∙ is) ∙ by_name this

-- A tag of another type or name is not one that a leaf looks for.
pub no_text : (name : List ℕ) (p : List ℕ → Bool) (o : Outcome Tag) → false ≡ on_item (is_of 2 name) o → false ≡ on_item (string_tag name p) o
unfolding is_of string_tag
no_text name p (refused f) e = refl
no_text name p (got t next) e = go (same t.name name) t.value.0 t.value.1 e
  where
    go : (b : Bool) (k : TagType) (v : TagValue k) → false ≡ pick (eqb (type_code k) 2) b false → false ≡ pick b (on_string p k v) false
    go false k v e = refl
    go true hash_type v e = refl
    go true string_type v e = differ cc
    go true dword_type v e = refl
    go true float_type v e = refl

pub no_number : (name : List ℕ) (p : ℕ → Bool) (o : Outcome Tag) → false ≡ on_item (is_of 3 name) o → false ≡ on_item (dword_tag name p) o
unfolding is_of dword_tag
no_number name p (refused f) e = refl
no_number name p (got t next) e = go (same t.name name) t.value.0 t.value.1 e
  where
    go : (b : Bool) (k : TagType) (v : TagValue k) → false ≡ pick (eqb (type_code k) 3) b false → false ≡ pick b (on_dword p k v) false
    go false k v e = refl
    go true hash_type v e = refl
    go true string_type v e = refl
    go true dword_type v e = differ cc
    go true float_type v e = refl
