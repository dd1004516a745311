-- Merging two saves of one model (02, No. 3): the file that both windows opened, and the two that they want to save, make one file.
use Rattle.std.specs.Prelude.{◌≡◌, Bool, true, false, ◌&&◌, ◌||◌, ◌⊎◌, List, ◌++◌, ℕ, max, length, leb}
use Rattle.std.proofs.Math.Option.{Option, none, some}
use Rattle.format.specs.Tables.{pick}
use Rattle.format.specs.Gaps.{Gap, gap_limit, intervals, missing}
use Rattle.format.specs.Messages.{HashBlocks, PartMet, Tag, e0, e1, part_met}
use Rattle.format.specs.Layout.{encode_part_met}
use Rattle.format.specs.Rules.{SizeIs}
use Rattle.format.specs.Decoding.{Answer, accepted, number, refusal}
use Rattle.format.specs.GapTags.{gaps_of}
use Rattle.format.specs.MetOrder.{decode}
use Rattle.format.specs.PutGaps.{gap_tags, plain_tags, tags_of, within_ceiling}
use Rattle.format.specs.Writing.{Written, unwritten}

-- A part.met by what a merge treats by itself: the date, the file hash, the opening form with its hash lists as one value, the tags that
-- are no gap tags as one list, and the missing bytes.
pub data HashForm : Type 0 where
  e0_form : (parts : List (List ℕ)) → HashForm
  e1_form : HashBlocks → HashForm

abbrev pub date_of : PartMet → ℕ
date_of (e0 e) = e.date
date_of (e1 m) = m.date

abbrev pub hash_of : PartMet → List ℕ
hash_of (e0 e) = e.hash
hash_of (e1 m) = m.hash

abbrev pub form_of : PartMet → HashForm
form_of (e0 e) = e0_form e.parts
form_of (e1 m) = e1_form m.blocks

abbrev pub part_of : HashForm → (date : ℕ) → (hash : List ℕ) → List Tag → PartMet
part_of (e0_form parts) date hash tags = e0 (record { date = date; hash = hash; parts = parts; tags = tags })
part_of (e1_form blocks) date hash tags = e1 (record { date = date; hash = hash; tags = tags; blocks = blocks })

-- A byte that the opened file misses is missing exactly when both saves miss it; a byte that it has, exactly when either save misses it.
abbrev pub merged_missing : (opened first second : Bool) → Bool
merged_missing true first second = first && second
merged_missing false first second = first || second

abbrev pub merged_gaps : ℕ → (opened first second : List Gap) → List Gap
merged_gaps size opened first second = intervals (λ x. merged_missing (missing opened x) (missing first x) (missing second x)) size

-- Three-way: the changed one wins, and equal changes are one change; `none` is something changed in two different ways.
pub data ThreeWay {A : Type 0} (opened first second : A) : Option A → Type 0 where
  agreed : first ≡ second → ThreeWay opened first second (some first)
  first_changed : second ≡ opened → ThreeWay opened first second (some first)
  second_changed : first ≡ opened → ThreeWay opened first second (some second)
  conflict : (first ≡ second → ⊥) → (second ≡ opened → ⊥) → (first ≡ opened → ⊥) → ThreeWay opened first second none

-- One model: all three have one file hash and one size.
pub record OneModel (size : ℕ) (opened first second : PartMet) : Type 0 where
  pub hashes : (hash_of first ≡ hash_of opened) × (hash_of second ≡ hash_of opened)
  pub sizes : SizeIs size (tags_of opened) × (SizeIs size (tags_of first) × SizeIs size (tags_of second))

abbrev pub FormChoice : (opened first second : PartMet) → Option HashForm → Type 0
FormChoice opened first second form = ThreeWay (form_of opened) (form_of first) (form_of second) form

abbrev pub TagsChoice : (opened first second : PartMet) → Option (List Tag) → Type 0
TagsChoice opened first second tags = ThreeWay (plain_tags (tags_of opened)) (plain_tags (tags_of first)) (plain_tags (tags_of second)) tags

abbrev pub gaps_left : ℕ → (opened first second : PartMet) → List Gap
gaps_left size opened first second = merged_gaps size (gaps_of (tags_of opened)) (gaps_of (tags_of first)) (gaps_of (tags_of second))

-- The later of the saves' dates, the chosen form, the chosen tags, and then the gaps, numbered from 0.
abbrev pub merged_part : HashForm → List Tag → ℕ → (opened first second : PartMet) → PartMet
merged_part form tags size opened first second =
    part_of form (max (date_of first) (date_of second)) (hash_of opened) (tags ++ gap_tags 0 (gaps_left size opened first second))

-- 6 above the most gaps or the byte ceiling; then 10.
abbrev pub within_limits : List Gap → List ℕ → (output : List ℕ) → Written
within_limits gaps bytes output = pick (leb (length gaps) gap_limit) (within_ceiling bytes output) (unwritten 6 output)

-- Three files that are accepted: 12 if they are no one model; 11 if something was changed in two different ways; else the outcome, if it is
-- within the limits.
pub data Merged (opened first second : PartMet) (output : List ℕ) : Written → Type 0 where
  strangers : ((size : ℕ) → OneModel size opened first second → ⊥) → Merged opened first second output (unwritten 12 output)
  conflicts : (size : ℕ) → OneModel size opened first second → FormChoice opened first second none ⊎ TagsChoice opened first second none →
      Merged opened first second output (unwritten 11 output)
  merges : (size : ℕ) → OneModel size opened first second →
      (form : HashForm) → FormChoice opened first second (some form) → (tags : List Tag) → TagsChoice opened first second (some tags) →
      Merged opened first second output
      (within_limits (gaps_left size opened first second) (encode_part_met (merged_part form tags size opened first second)) output)

-- Each file's own number comes first: that of the opened one, of the first save, of the second.
abbrev pub MergesAfter : (opened first second : Answer PartMet) → (output : List ℕ) → Written → Type 0
MergesAfter (refusal f) first second output w = w ≡ unwritten (number f.rule) output
MergesAfter (accepted o) (refusal f) second output w = w ≡ unwritten (number f.rule) output
MergesAfter (accepted o) (accepted a) (refusal f) output w = w ≡ unwritten (number f.rule) output
MergesAfter (accepted o) (accepted a) (accepted b) output w = Merged o a b output w

unfoldable pub Merges : (opened first second output : List ℕ) → Written → Type 0
Merges opened first second output w = MergesAfter (decode part_met opened) (decode part_met first) (decode part_met second) output w
