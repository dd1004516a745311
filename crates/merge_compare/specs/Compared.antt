-- What the comparison of two part.mets needs, and what its private steps answer.
use Rattle.std.specs.Prelude.{ℕ, ◌-◌, ◌<◌, ◌≤◌, ◌≡◌, List, [], ◌∷◌, Option, Some, None}
use Rattle.format.specs.Messages.{Tag}
use Rattle.format.specs.Layout.{encode_tag}
use Rattle.format.specs.Rules.{SizeIs, ValidTag}
use Rattle.format.specs.Decoding.{bytes_at, decode_many, ends, got, items_of}
use Rattle.format.specs.Order.{decode_tag}
use Rattle.format.specs.PutGaps.{plain_tags, tags_of}
use Rattle.met.specs.declared.PartGaps.{PartGaps}
use Rattle.met.specs.declared.PartMet.{PartMet}
use Rattle.met.specs.MetAnswers.{part_met_in, tags_place}
use Rattle.put_gaps.specs.Pieces.{WasRead}
use Rattle.merge_compare.specs.declared.Next.{Next}

-- Two part.mets that were read, of one size: how many hashes a block has depends on it.
pub record OneSize (s : List ℕ) (part : PartMet) (t : List ℕ) (other : PartMet) : Type 0 where
  pub read : WasRead s part
  pub other_read : WasRead t other
  pub size : ℕ
  pub sized : SizeIs size (tags_of (part_met_in s part))
  pub other_sized : SizeIs size (tags_of (part_met_in t other))

-- So many tags lie from an offset on, and which they are.
abbrev pub TagsThere : List ℕ → (at left : ℕ) → Type 0
TagsThere s at left = (end : ℕ) × (ends (decode_many left decode_tag s at) ≡ got tt end)

abbrev pub tags_from : List ℕ → (at left : ℕ) → List Tag
tags_from s at left = items_of (decode_many left decode_tag s at)

-- The first of some tags that are no gap tags: its bytes, and where the tags after it lie.
pub record Takes (s : List ℕ) (tags : List Tag) (r : Next) : Type 0 where
  pub tag : Tag
  pub valid : ValidTag tag
  pub order : r.at ≤ r.end
  pub bytes : bytes_at s r.at (r.end - r.at) ≡ encode_tag tag
  pub there : TagsThere s r.end r.left
  pub all : tags ≡ tag ∷ plain_tags (tags_from s r.end r.left)

abbrev pub NextFound : List ℕ → List Tag → Option Next → Type 0
NextFound s tags (Some r) = Takes s tags r
NextFound s tags None = tags ≡ []

-- Fewer tags are left after the one that is found.
abbrev pub Fewer : ℕ → Option Next → Type 0
Fewer left (Some r) = r.left < left
Fewer left None = Unit {0}

-- The bytes of the tags before the gap tags, and of those after them.
abbrev pub spec_run_before : List ℕ → PartMet → PartGaps → List ℕ
spec_run_before s part gaps = bytes_at s (tags_place part).at (gaps.range.at - (tags_place part).at)

abbrev pub spec_run_after : List ℕ → PartMet → PartGaps → List ℕ
spec_run_after s part gaps = bytes_at s gaps.range.end ((tags_place part).end - gaps.range.end)
