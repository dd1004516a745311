-- What a tag walker gives: the tag at its place of a tag list that is lent with its count, or that there are no more, or a fault
-- (01, "Items"); and where it stands afterwards. Walks.antt says what a whole walk gives.
use Rattle.std.specs.Prelude.{ℕ, ◌-◌, ◌≡◌, List, length, eqb, ltb, leb, Option, Some, None, Result, Ok, Err}
use Rattle.std.specs.Borrow.{Bor}
use Rattle.format.specs.Tables.{pick}
use Rattle.format.specs.Messages as messages
use Rattle.format.specs.Messages.{lone_tags}
use Rattle.format.specs.Rules.{ceiling}
use Rattle.format.specs.Decoding as decoding
use Rattle.format.specs.Decoding.{rest, bytes_ceiling, fault, Outcome, refused, got}
use Rattle.format.specs.Order.{decode_dword, decode_tag}
use Rattle.wire.specs.declared.Fault.{Fault}
use Rattle.wire.specs.WireAnswers.{fault_meaning}
use Rattle.tags.specs.declared.Tag.{Tag}
use Rattle.tags.specs.TagAnswers.{tag_of, TagInside}
use Rattle.tag_walker.specs.declared.TagWalker.{TagWalker}
use Rattle.tag_walker.specs.declared.Moved.{Moved}

-- What stands at a place: a tag, with the offset after it and how many tags are left there.
pub data Walk : Type 0 where
  tag : messages.Tag → (next left : ℕ) → Walk
  end : Walk
  refusal : decoding.Fault → Walk

abbrev pub walk_of : Outcome messages.Tag → (left : ℕ) → Walk
walk_of (refused f) left = refusal f
walk_of (got t next) left = tag t next left

-- After the count: a tag while some are left, then the end, or the fault that bytes are left over.
unfoldable pub spec_walk_from : List ℕ → (at left : ℕ) → Walk
spec_walk_from s at left =
    pick (eqb left 0)
    (pick (ltb at (length s)) (refusal (fault rest at 1)) end)
    (walk_of (decode_tag s at) (left - 1))

-- At the beginning, which is place 0, the byte ceiling comes first, and then the count.
abbrev pub begin : List ℕ → Outcome ℕ → Walk
begin s (refused f) = refusal f
begin s (got count first) = spec_walk_from s first count

unfoldable pub spec_walk_at : List ℕ → (at left : ℕ) → Walk
spec_walk_at s at left =
    pick (eqb at 0)
    (pick (leb (length s) (ceiling lone_tags)) (begin s (decode_dword s 0)) (refusal (fault bytes_ceiling 0 (length s))))
    (spec_walk_from s at left)

-- A tag and the place that it moves the walker to, as code hands them on: what they stand for, and that the tag lies wholly inside the bytes.
abbrev pub moved_meaning : List ℕ → Result (Option Moved) Fault → Walk
moved_meaning s (Ok (Some m)) = tag (tag_of s m.tag) m.at m.left
moved_meaning s (Ok None) = end
moved_meaning s (Err f) = refusal (fault_meaning f)

abbrev pub MovedInside : List ℕ → Result (Option Moved) Fault → Type 0
MovedInside s (Ok (Some m)) = TagInside s m.tag
MovedInside s (Ok None) = Unit {0}
MovedInside s (Err f) = Unit {0}

abbrev pub Walked : List ℕ → Walk → Result (Option Moved) Fault → Type 0
Walked s found r = (moved_meaning s r ≡ found) × MovedInside s r

-- `WalkStep` of the code, since antt has no name for an alias.
abbrev pub WalkStep : Type 0
WalkStep = Result (Option Tag) Fault

-- What a step stands for, with the place where the walker stands afterwards: the places of a tag stand for what lies there.
abbrev pub step_meaning : List ℕ → WalkStep → (at left : ℕ) → Walk
step_meaning s (Ok (Some t)) at left = tag (tag_of s t) at left
step_meaning s (Ok None) at left = end
step_meaning s (Err f) at left = refusal (fault_meaning f)

-- They lie wholly inside the bytes.
abbrev pub StepInside : List ℕ → WalkStep → Type 0
StepInside s (Ok (Some t)) = TagInside s t
StepInside s (Ok None) = Unit {0}
StepInside s (Err f) = Unit {0}

-- At the end and at a fault the walker stays at its place.
abbrev pub Stays : WalkStep → (at left at_after left_after : ℕ) → Type 0
Stays (Ok (Some t)) at left at_after left_after = Unit {0}
Stays (Ok None) at left at_after left_after = (at_after ≡ at) × (left_after ≡ left)
Stays (Err f) at left at_after left_after = (at_after ≡ at) × (left_after ≡ left)

-- The walker that `new` makes.
abbrev pub begun : Bor (List ℕ) → TagWalker
begun tags = record { tags = tags; at = 0; left = 0 }

-- What `next` promises of the walker as it was, the step, and the walker afterwards: it gave what stands at the place, and stands where it should.
abbrev pub Next : TagWalker → WalkStep → TagWalker → Type 0
Next w step after =
    (after.tags ≡ w.tags) ×
    ((step_meaning w.tags.now step after.at after.left ≡ spec_walk_at w.tags.now w.at w.left) ×
    (Stays step w.at w.left after.at after.left × StepInside w.tags.now step))
