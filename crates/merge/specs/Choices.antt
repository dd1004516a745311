-- What the private steps of a merge need and answer.
use Rattle.std.specs.Prelude.{ℕ, ◌≡◌, ◌↔◌, List, ◌∷◌, length, Option, Some, None, Result}
use Rattle.std.proofs.Math.Option.{some, none}
use Rattle.format.specs.Messages as messages
use Rattle.format.specs.Gaps.{Gap}
use Rattle.format.specs.Layout.{encode}
use Rattle.format.specs.Rules.{Valid}
use Rattle.format.specs.Decoding.{message, reply}
use Rattle.format.specs.MetOrder.{decode}
use Rattle.format.specs.Merging.{ThreeWay}
use Rattle.tags.specs.TagAnswers.{tags_in}
use Rattle.gap_numbers.specs.NumberSteps.{gap_number_list}
use Rattle.part_tags.specs.PartTagAnswers.{GapsHeld}
use Rattle.wire.specs.declared.Rule.{Rule}
use Rattle.met.specs.declared.PartGaps.{PartGaps}
use Rattle.met.specs.declared.PartMet.{PartMet}
use Rattle.met.specs.MetAnswers.{PartAnswerPlaced, PartReadSized, part_in, part_met_in, part_reply, tags_place}
use Rattle.put_gaps.specs.Pieces.{Accepts}
use Rattle.merge.specs.declared.Read.{Read}
use Rattle.merge.specs.declared.Save.{Save}

-- What `read_part` answers for a file, and leaves in the array of offsets.
abbrev pub ReadAs : (s starts : List ℕ) → Result (PartMet × PartGaps) Rule → Type 0
ReadAs s starts r =
    (part_reply s (part_in r) ≡ reply (decode messages.part_met s)) × (PartAnswerPlaced s (part_in r) × (PartReadSized s starts r ×
    ((m : messages.PartMet) → (part_reply s (part_in r) ≡ message m) ↔ ((s ≡ encode messages.part_met m) × Valid messages.part_met m))))

-- The date of a part.met that was read.
abbrev pub date_in : PartMet → ℕ
date_in (PartMet.E0 e) = e.date
date_in (PartMet.E1 m) = m.date

-- The part.met that was read from a file.
abbrev pub part_from : Read → messages.PartMet
part_from r = part_met_in r.bytes.now r.part

-- The file is accepted as it.
abbrev pub Reads : Read → Type 0
Reads r = Accepts r.bytes.now r.part r.gaps

-- And the offsets are those of its gaps.
pub record Found (r : Read) : Type 0 where
  pub reads : Reads r
  pub held : GapsHeld r.bytes.now r.starts.now r.gaps.count (tags_in r.bytes.now (tags_place r.part))

abbrev pub SameSizes : (base one other : Read) → Type 0
SameSizes base one other = (one.gaps.size ≡ base.gaps.size) × (other.gaps.size ≡ base.gaps.size)

-- The value that wins, or the conflict.
abbrev pub save_of : {A : Type 0} → Save → (first second : A) → A
save_of Save.First first second = first
save_of Save.Second first second = second

abbrev pub Chosen : {A : Type 0} → (opened first second : A) → Option Save → Type 0
Chosen opened first second (Some save) = ThreeWay opened first second (some (save_of save first second))
Chosen opened first second None = ThreeWay opened first second none

-- Gaps as numbers, as many as there are.
abbrev pub numbers_left : ℕ → List Gap → List ℕ
numbers_left size gaps = size ∷ length gaps ∷ gap_number_list gaps
