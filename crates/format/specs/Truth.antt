-- The truth of a query on a tag list (01, "Marking, saving, searching"): in plain words, and as tests.
use Rattle.std.specs.Prelude.{◌≡◌, Bool, true, false, ◌⊎◌, List, [], ◌∷◌, ◌++◌, ℕ, ◌≤◌, leb, eqb}
use Rattle.format.specs.Tables.{pick, same}
use Rattle.format.specs.Messages.{TagType, hash_type, string_type, dword_type, float_type, TagValue, Tag, Operator, and, or, and_not, Bound, at_least, at_most, Query, join, keyword, field, limit}
use Rattle.format.specs.Decoding.{number, Answer, refusal, accepted}
use Rattle.format.specs.MetOrder.{decode}
use Rattle.format.specs.Messages.{lone_query, lone_tags}

-- In plain words

-- Some element has the property.
abbrev pub Some : {A : Type 0} → (A → Type 0) → List A → Type 0
Some P [] = ⊥
Some P (a ∷ l) = P a ⊎ Some P l

-- The bytes t occur in s, adjacent and in order.
pub record Occurs (t s : List ℕ) : Type 0 where
  pub before : List ℕ
  pub after : List ℕ
  pub here : s ≡ before ++ (t ++ after)

-- A String tag or a DWORD tag with this name, whose value has the property.
abbrev pub StringTag : List ℕ → (List ℕ → Type 0) → Tag → Type 0
StringTag name P t = (v : List ℕ) × ((t ≡ record { name = name; value = (string_type, v) }) × P v)

abbrev pub DwordTag : List ℕ → (ℕ → Type 0) → Tag → Type 0
DwordTag name P t = (n : ℕ) × ((t ≡ record { name = name; value = (dword_type, n) }) × P n)

abbrev pub Within : Bound → ℕ → ℕ → Type 0
Within at_least number n = number ≤ n
Within at_most number n = n ≤ number

-- The truth of a leaf stands apart from the operators.
abbrev pub LeafHolds : Query → List Tag → Type 0
LeafHolds (join o q r) tags = ⊥
LeafHolds (keyword text) tags = Some (StringTag (0x01 ∷ []) (Occurs text)) tags
LeafHolds (field text name) tags = Some (StringTag name (λ v. v ≡ text)) tags
LeafHolds (limit number bound name) tags = Some (DwordTag name (Within bound number)) tags

abbrev pub Both : Operator → Type 0 → Type 0 → Type 0
Both and P Q = P × Q
Both or P Q = P ⊎ Q
Both and_not P Q = P × (Q → ⊥)

unfoldable pub Holds : Query → List Tag → Type 0
Holds (join o q r) tags = Both o (Holds q tags) (Holds r tags)
Holds (keyword text) tags = LeafHolds (keyword text) tags
Holds (field text name) tags = LeafHolds (field text name) tags
Holds (limit number bound name) tags = LeafHolds (limit number bound name) tags

-- The same as tests

abbrev pub some : {A : Type 0} → (A → Bool) → List A → Bool
some p [] = false
some p (a ∷ l) = pick (p a) true (some p l)

unfoldable pub prefix : List ℕ → List ℕ → Bool
prefix [] s = true
prefix (a ∷ t) [] = false
prefix (a ∷ t) (b ∷ s) = pick (eqb a b) (prefix t s) false

unfoldable pub occurs : List ℕ → List ℕ → Bool
occurs t [] = prefix t []
occurs t (b ∷ s) = pick (prefix t (b ∷ s)) true (occurs t s)

abbrev pub on_string : (List ℕ → Bool) → (t : TagType) → TagValue t → Bool
on_string p hash_type v = false
on_string p string_type v = p v
on_string p dword_type v = false
on_string p float_type v = false

abbrev pub on_dword : (ℕ → Bool) → (t : TagType) → TagValue t → Bool
on_dword p hash_type v = false
on_dword p string_type v = false
on_dword p dword_type v = p v
on_dword p float_type v = false

unfoldable pub string_tag : List ℕ → (List ℕ → Bool) → Tag → Bool
string_tag name p t = pick (same t.name name) (on_string p t.value.0 t.value.1) false

unfoldable pub dword_tag : List ℕ → (ℕ → Bool) → Tag → Bool
dword_tag name p t = pick (same t.name name) (on_dword p t.value.0 t.value.1) false

abbrev pub within : Bound → ℕ → ℕ → Bool
within at_least number n = leb number n
within at_most number n = leb n number

abbrev pub leaf_holds : Query → List Tag → Bool
leaf_holds (join o q r) tags = false
leaf_holds (keyword text) tags = some (string_tag (0x01 ∷ []) (occurs text)) tags
leaf_holds (field text name) tags = some (string_tag name (λ v. same v text)) tags
leaf_holds (limit number bound name) tags = some (dword_tag name (within bound number)) tags

abbrev pub combine : Operator → Bool → Bool → Bool
combine and p q = pick p q false
combine or p q = pick p true q
combine and_not p q = pick p (pick q false true) false

unfoldable pub holds : Query → List Tag → Bool
holds (join o q r) tags = combine o (holds q tags) (holds r tags)
holds (keyword text) tags = leaf_holds (keyword text) tags
holds (field text name) tags = leaf_holds (field text name) tags
holds (limit number bound name) tags = leaf_holds (limit number bound name) tags

-- The answer for the bytes of a lone query and a lone tag list: a number, and a truth that is no where the number is not 0.
-- "Query refusals come before tag list refusals" (01).
pub record TruthReply : Type 0 where
  pub number : ℕ
  pub holds : Bool

abbrev pub on_tags : Query → Answer (List Tag) → TruthReply
on_tags q (refusal f) = record { number = number f.rule; holds = false }
on_tags q (accepted tags) = record { number = 0; holds = holds q tags }

abbrev pub on_query : Answer Query → Answer (List Tag) → TruthReply
on_query (refusal f) tags = record { number = number f.rule; holds = false }
on_query (accepted q) tags = on_tags q tags

unfoldable pub truth : (query tags : List ℕ) → TruthReply
truth query tags = on_query (decode lone_query query) (decode lone_tags tags)
