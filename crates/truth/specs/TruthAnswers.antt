-- What each answer of the code stands for.
use Rattle.std.specs.Prelude.{ℕ, ◌+◌, ◌*◌, ◌≡◌, Bool, true, false, List, [], ◌∷◌, get_or, eqb}
use Rattle.format.specs.Tables.{pick, same}
use Rattle.format.specs.Messages.{Query, Tag, TagType, TagValue, hash_type, string_type, dword_type, float_type, Operator, and, or, and_not}
use Rattle.format.specs.Layout.{type_code}
use Rattle.format.specs.Decoding.{Outcome, refused, got, number}
use Rattle.format.specs.Order.{decode_tag}
use Rattle.format.specs.Truth.{occurs, string_tag, dword_tag, within, holds, TruthReply}
use Rattle.query.specs.Nodes.{Node, join, keyword, field, limit}
use Rattle.std.specs.Prelude.{Result, Ok, Err}
use Rattle.wire.specs.declared.Rule.{Rule}
use Rattle.wire.specs.WireAnswers.{Step, rule_meaning, step_meaning}
use Rattle.tags.specs.Skips.{Lies}

-- The tag is one that the leaf looks for: a leaf holds when this is so of some tag of the list.
unfoldable pub tag_meets : Node → Tag → Bool
tag_meets (join o) t = false
tag_meets (keyword text) t = string_tag (0x01 ∷ []) (occurs text) t
tag_meets (field text name) t = string_tag name (λ v. same v text) t
tag_meets (limit number bound name) t = dword_tag name (within bound number) t

-- The tag has the type with this code, and this name.
unfoldable pub is_of : ℕ → List ℕ → Tag → Bool
is_of code name t = pick (eqb (type_code t.value.0) code) (same t.name name) false

-- A test of an item that was decoded: where none was, it is false.
abbrev pub on_item : {A : Type 0} → (A → Bool) → Outcome A → Bool
on_item p (refused f) = false
on_item p (got a next) = p a

-- Where the value of a tag lies: after the type, and the name with its length.
abbrev pub value_offset : List ℕ → ℕ → ℕ
value_offset s at = at + 3 + (get_or s (at + 1) 0 + 256 * get_or s (at + 2) 0)

-- The text of a String tag, and the number of a DWORD tag.
abbrev pub text_in : (k : TagType) → TagValue k → List ℕ
text_in hash_type v = []
text_in string_type v = v
text_in dword_type v = []
text_in float_type v = []

abbrev pub text_of : Outcome Tag → List ℕ
text_of (refused f) = []
text_of (got t next) = text_in t.value.0 t.value.1

abbrev pub number_in : (k : TagType) → TagValue k → ℕ
number_in hash_type v = 0
number_in string_type v = 0
number_in dword_type v = v
number_in float_type v = 0

abbrev pub number_of : Outcome Tag → ℕ
number_of (refused f) = 0
number_of (got t next) = number_in t.value.0 t.value.1

-- The left side's truth is the join's, whatever the right side's is.
abbrev pub settled_by : Operator → Bool → Bool
settled_by and p = pick p false true
settled_by or p = p
settled_by and_not p = pick p false true

-- The truth of a query that was decoded, in place of the query.
unfoldable pub truths : List Tag → Outcome Query → Outcome Bool
truths tags (refused f) = refused f
truths tags (got q next) = got (holds q tags) next

abbrev pub truth_step_meaning : Step Bool → Outcome Bool
truth_step_meaning = step_meaning (λ b. b)

-- A refusal has a truth of no.
abbrev pub truth_meaning : Result Bool Rule → TruthReply
truth_meaning (Ok holds) = record { number = 0; holds = holds }
truth_meaning (Err rule) = record { number = number (rule_meaning rule); holds = false }

-- What a test answers at the offset of a tag is whether the tag is one that it looks for.
abbrev pub TellsOf : (Tag → Bool) → List ℕ → (ℕ → Bool → Type 0) → Type 0
TellsOf p s Answers = (at : ℕ) (answer : Bool) → Lies (decode_tag s at) → Answers at answer → answer ≡ on_item p (decode_tag s at)
