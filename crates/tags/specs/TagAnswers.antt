-- What each answer for a tag stands for.
use Rattle.std.specs.Prelude.{ℕ, List}
use Rattle.format.specs.Messages as messages
use Rattle.format.specs.Messages.{hash_type, string_type, dword_type, float_type}
use Rattle.format.specs.Decoding.{Outcome, bytes_at, Reply}
use Rattle.format.specs.Order.{decode_tag}
use Rattle.wire.specs.declared.Items.{Items}
use Rattle.wire.specs.WireAnswers.{hash_at, HashInside, Inside, place_bytes, PlaceInside, items_in, ItemsInside}
use Rattle.tags.specs.declared.TagType.{TagType}
use Rattle.tags.specs.declared.TagValue.{TagValue}
use Rattle.tags.specs.declared.Tag.{Tag}
use Rattle.std.specs.Prelude.{Result}
use Rattle.wire.specs.declared.Rule.{Rule}
use Rattle.wire.specs.WireAnswers.{Step, step_meaning, OfStep, reply_meaning, OfReply}

abbrev pub type_of : TagType → messages.TagType
type_of TagType.Hash = hash_type
type_of TagType.Text = string_type
type_of TagType.Dword = dword_type
type_of TagType.Float = float_type

abbrev pub type_meaning : Step TagType → Outcome messages.TagType
type_meaning = step_meaning type_of

-- The places of a value, of a name and of a list's tags stand for what lies there in the input.
abbrev pub value_of : List ℕ → TagValue → (t : messages.TagType) × messages.TagValue t
value_of s (TagValue.Hash at) = (hash_type, hash_at s at)
value_of s (TagValue.Text p) = (string_type, place_bytes s p)
value_of s (TagValue.Dword n) = (dword_type, n)
value_of s (TagValue.Float n) = (float_type, n)

abbrev pub value_meaning : List ℕ → Step TagValue → Outcome ((t : messages.TagType) × messages.TagValue t)
value_meaning s = step_meaning (value_of s)

abbrev pub tag_of : List ℕ → Tag → messages.Tag
tag_of s t = record { name = bytes_at s t.name_at t.name_len; value = value_of s t.value }

abbrev pub tag_meaning : List ℕ → Step Tag → Outcome messages.Tag
tag_meaning s = step_meaning (tag_of s)

-- The name and the value lie wholly inside the bytes.
abbrev pub ValueInside : List ℕ → TagValue → Type 0
ValueInside s (TagValue.Hash at) = HashInside s at
ValueInside s (TagValue.Text p) = PlaceInside s p
ValueInside s (TagValue.Dword n) = Unit {0}
ValueInside s (TagValue.Float n) = Unit {0}

abbrev pub ValueStepInside : List ℕ → Step TagValue → Type 0
ValueStepInside s = OfStep (ValueInside s)

abbrev pub TagInside : List ℕ → Tag → Type 0
TagInside s t = Inside s t.name_at t.name_len × ValueInside s t.value

abbrev pub TagStepInside : List ℕ → Step Tag → Type 0
TagStepInside s = OfStep (TagInside s)

abbrev pub tags_in : List ℕ → Items → List messages.Tag
tags_in s l = items_in decode_tag s l

-- What a caller gets of a lone tag list.
abbrev pub tag_list_reply : List ℕ → Result Items Rule → Reply (List messages.Tag)
tag_list_reply s = reply_meaning (tags_in s)

abbrev pub TagListPlaced : List ℕ → Result Items Rule → Type 0
TagListPlaced s = OfReply (ItemsInside decode_tag s)
