-- What the first pass finds: the size tags, and the byte range of the gap tags.
use Rattle.std.specs.Prelude.{◌≡◌, List, [], ◌∷◌, ◌++◌, ℕ, ◌+◌, ◌-◌, ◌≤◌, length, Option, None, Some, Result, Ok, Err}
use Rattle.format.specs.Messages.{Tag}
use Rattle.format.specs.Rules.{All}
use Rattle.format.specs.Decoding as decoding
use Rattle.format.specs.Decoding.{Outcome, refused, got, decode_many, ends, Check, violates}
use Rattle.format.specs.GapTags.{number_of, plain, role}
use Rattle.format.specs.Order.{decode_tag}
use Rattle.format.specs.PartTagOrder.{size_in, sizes, sole}
use Rattle.wire.specs.declared.Fault.{Fault}
use Rattle.wire.specs.declared.Items.{Items}
use Rattle.wire.specs.WireAnswers.{fault_meaning, items_in}
use Rattle.part_tags.specs.declared.Sizes.{Sizes}
use Rattle.part_tags.specs.declared.Leading.{Leading}
use Rattle.part_tags.specs.declared.Surveyed.{Surveyed}

-- The sizes

-- the numbers of the size tags that a tag adds; what is refused adds none
abbrev pub sizes_in : Tag → List ℕ
sizes_in t = size_in t.name (number_of t.value.0 t.value.1)

abbrev pub sizes_at : Outcome Tag → List ℕ
sizes_at (refused f) = []
sizes_at (got t next) = sizes_in t

abbrev pub joined : Sizes → Option ℕ → Sizes
joined sizes None = sizes
joined Sizes.None (Some n) = Sizes.One n
joined (Sizes.One m) (Some n) = Sizes.Many
joined Sizes.Many (Some n) = Sizes.Many

abbrev pub only_size : Sizes → Option ℕ
only_size Sizes.None = None
only_size (Sizes.One n) = Some n
only_size Sizes.Many = None

-- the check of the sizes seen, with others after them
abbrev pub sole_after : Sizes → List ℕ → Check ℕ
sole_after Sizes.None l = sole l
sole_after (Sizes.One n) l = sole (n ∷ l)
sole_after Sizes.Many l = violates decoding.size_tag

-- the sizes seen before these tags and after them
abbrev pub Sized : Sizes → List Tag → Sizes → Type 0
Sized before tags after = (l : List ℕ) → sole_after before (sizes tags ++ l) ≡ sole_after after l

-- The gap tags

abbrev pub Plain : Tag → Type 0
Plain t = role t ≡ plain

-- The gap tags of a list lie in a byte range: the tags before it and after it are no gap tags. It may be empty.
pub record GapTagsIn (s : List ℕ) (tags range : Items) : Type 0 where
  pub pre : List Tag
  pub mid : List Tag
  pub post : List Tag
  pub pre_read : decode_many (length pre) decode_tag s tags.at ≡ got pre range.at
  pub mid-read : decode_many range.count decode_tag s range.at ≡ got mid range.end
  pub post_read : decode_many (length post) decode_tag s range.end ≡ got post tags.end
  pub all : items_in decode_tag s tags ≡ pre ++ (mid ++ post)
  pub pre-plain : All Plain pre
  pub post-plain : All Plain post

-- The tags before the first gap tag: those that the answer counts, up to its end.
pub record LeadingTags (s : List ℕ) (at count : ℕ) (r : Leading) : Type 0 where
  pub tags : List Tag
  pub few : r.count ≤ count
  pub counted : length tags ≡ r.count
  pub read : decode_many (length tags) decode_tag s at ≡ got tags r.end
  pub left : ends (decode_many count decode_tag s at) ≡ ends (decode_many (count - r.count) decode_tag s r.end)
  pub plains : All Plain tags
  pub sized : Sized Sizes.None tags r.sizes

abbrev pub LeadingFound : List ℕ → (at count : ℕ) → Result Leading Fault → Type 0
LeadingFound s at count (Ok r) = LeadingTags s at count r
LeadingFound s at count (Err f) = refused (fault_meaning f) ≡ decode_many count decode_tag s at

-- From the first gap tag on: those up to the last gap tag, and the others.
pub record RangeTags (s : List ℕ) (at count : ℕ) (before : Sizes) (r : Surveyed) : Type 0 where
  pub mid : List Tag
  pub post : List Tag
  pub starts : r.range.at ≡ at
  pub mid-read : decode_many r.range.count decode_tag s at ≡ got mid r.range.end
  pub post_read : decode_many (length post) decode_tag s r.range.end ≡ got post r.end
  pub counted : r.range.count + length post ≡ count
  pub plains : All Plain post
  pub sized : Sized before (mid ++ post) r.sizes

abbrev pub RangeFound : List ℕ → (at count : ℕ) → Sizes → Result Surveyed Fault → Type 0
RangeFound s at count before (Ok r) = RangeTags s at count before r
RangeFound s at count before (Err f) = refused (fault_meaning f) ≡ decode_many count decode_tag s at

-- The whole list.
abbrev pub list_at : (at count : ℕ) → Surveyed → Items
list_at at count r = record { at = at; end = r.end; count = count }

pub record SurveyedTags (s : List ℕ) (at count : ℕ) (r : Surveyed) : Type 0 where
  pub placed : ends (decode_many count decode_tag s at) ≡ got tt r.end
  pub gap-tags : GapTagsIn s (list_at at count r) r.range
  pub sized : Sized Sizes.None (items_in decode_tag s (list_at at count r)) r.sizes

abbrev pub SurveyFound : List ℕ → (at count : ℕ) → Result Surveyed Fault → Type 0
SurveyFound s at count (Ok r) = SurveyedTags s at count r
SurveyFound s at count (Err f) = refused (fault_meaning f) ≡ decode_many count decode_tag s at
