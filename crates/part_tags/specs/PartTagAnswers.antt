-- What the check of a part.met's tags answers, for the tags that were checked.
use Rattle.std.specs.Prelude.{ℕ, ◌≤◌, ◌≡◌, List, Result, Ok, Err}
use Rattle.format.specs.Messages.{Tag}
use Rattle.format.specs.Gaps.{Gap, gap_limit}
use Rattle.format.specs.Decoding.{Check, passes, violates, refused, decode_many}
use Rattle.format.specs.GapTags.{gaps_of}
use Rattle.format.specs.Order.{decode_tag}
use Rattle.format.specs.PartTagOrder.{spec_check_part_tags}
use Rattle.wire.specs.declared.Fault.{Fault}
use Rattle.wire.specs.declared.Rule.{Rule}
use Rattle.wire.specs.declared.Items.{Items}
use Rattle.wire.specs.WireAnswers.{rule_meaning, fault_meaning, items_in, ItemsPlaced}
use Rattle.gaps.specs.declared.GapRecord.{GapRecord}
use Rattle.gaps.specs.GapRecords.{spec_record_of, spec_none_missing}
use Rattle.part_tags.specs.declared.CheckedTags.{CheckedTags}
use Rattle.part_tags.specs.Survey.{GapTagsIn}
use Rattle.part_tags.specs.Pairs.{first_gaps, PairsInside}

abbrev pub verdict_meaning : List Tag → Result ℕ Rule → Check (ℕ × List Tag)
verdict_meaning tags (Ok size) = passes (size, tags)
verdict_meaning tags (Err rule) = violates (rule_meaning rule)

-- the gaps that the tags stand for; none, of an empty file, where a rule is broken
abbrev pub gaps_meaning : List Tag → Result ℕ Rule → GapRecord
gaps_meaning tags (Ok size) = spec_record_of size (gaps_of tags)
gaps_meaning tags (Err rule) = spec_none_missing 0

-- the offsets of the start tags, as an array that is lent holds them, give the gaps
abbrev pub GapsFound : List Tag → List Gap → Result ℕ Rule → Type 0
GapsFound tags gaps (Ok size) = gaps ≡ gaps_of tags
GapsFound tags gaps (Err rule) = Unit {0}

-- The list lies there whole; its gap tags lie in the range; and the check of it.
abbrev pub spec_tags_at : (at count : ℕ) → CheckedTags → Items
spec_tags_at at count r = record { at = at; end = r.end; count = count }

pub record TagsChecked (s : List ℕ) (at count : ℕ) (starts : List ℕ) (r : CheckedTags) : Type 0 where
  pub placed : ItemsPlaced decode_tag s (spec_tags_at at count r)
  pub range : GapTagsIn s (spec_tags_at at count r) r.range
  pub verdict : verdict_meaning (items_in decode_tag s (spec_tags_at at count r)) r.verdict ≡ spec_check_part_tags (items_in decode_tag s (spec_tags_at at count r))
  pub few : r.gaps ≤ gap_limit
  pub inside : PairsInside s r.gaps starts
  pub gaps : GapsFound (items_in decode_tag s (spec_tags_at at count r)) (first_gaps s r.gaps starts) r.verdict

abbrev pub CheckedFound : List ℕ → (at count : ℕ) → (starts : List ℕ) → Result CheckedTags Fault → Type 0
CheckedFound s at count starts (Ok r) = TagsChecked s at count starts r
CheckedFound s at count starts (Err f) = refused (fault_meaning f) ≡ decode_many count decode_tag s at

-- An array of offsets holds the gaps of some tags.
pub record GapsHeld (s starts : List ℕ) (n : ℕ) (tags : List Tag) : Type 0 where
  pub few : n ≤ gap_limit
  pub inside : PairsInside s n starts
  pub gaps : first_gaps s n starts ≡ gaps_of tags
