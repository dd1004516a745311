-- Whole walks, and their laws, which proofs/Walks.antt shows: a walk from the beginning gives what the decoding of the lone tag list gives.
use Rattle.std.specs.Prelude.{ℕ, ◌<◌, ◌≤◌, ◌≡◌, ◌↔◌, ◌⊎◌, List, [], ◌∷◌, map, length, Some, None, Ok, Err}
use Rattle.std.specs.Borrow.{Bor}
use Rattle.format.specs.Messages as messages
use Rattle.format.specs.Messages.{lone_tags}
use Rattle.format.specs.Decoding as decoding
use Rattle.format.specs.Decoding.{accepted}
use Rattle.format.specs.MetOrder.{decode}
use Rattle.wire.specs.declared.Fault.{Fault}
use Rattle.wire.specs.WireAnswers.{fault_meaning}
use Rattle.tags.specs.declared.Tag.{Tag}
use Rattle.tags.specs.TagAnswers.{tag_of}
use Rattle.tag_walker.specs.declared.TagWalker.{TagWalker}
use Rattle.tag_walker.specs.Walk.{WalkStep, Walk, tag, end, refusal, spec_walk_at, begun, Next}

-- A walk from a place on: these tags, each at the offset after the one before, and then the last step.
pub data Walks (s : List ℕ) (last : Walk) : (at left : ℕ) → List messages.Tag → Type 0 where
  stops : {at left : ℕ} → spec_walk_at s at left ≡ last → Walks s last at left []
  goes : {at left next more : ℕ} {t : messages.Tag} {l : List messages.Tag} →
      spec_walk_at s at left ≡ tag t next more → Walks s last next more l → Walks s last at left (t ∷ l)

-- What a walk from the beginning tells of the bytes, as a lone tag list: it comes to the end with exactly the tags that they are accepted as;
-- a fault that it comes to is the one for which they are refused; and to one of the two it comes.
pub record WalkTells (s : List ℕ) : Type 0 where
  pub accepts : (l : List messages.Tag) → Walks s end 0 0 l ↔ (decode lone_tags s ≡ accepted l)
  pub refuses : (l : List messages.Tag) (f : decoding.Fault) → Walks s (refusal f) 0 0 l → decode lone_tags s ≡ decoding.refusal f
  pub comes : (l : List messages.Tag) × (Walks s end 0 0 l ⊎ ((f : decoding.Fault) × Walks s (refusal f) 0 0 l))

-- The same from the promises of `new` and `next` alone. Here `next` is any function, from a walker to a step and the walker afterwards, that keeps
-- the promise of `next`.
abbrev pub Keeps : (TagWalker → WalkStep × TagWalker) → Type 0
Keeps next = (w : TagWalker) → Next w (next w).0 (next w).1

-- Calls of it, each with the walker that the one before left: these tags, and then the last step.
pub data Calls (next : TagWalker → WalkStep × TagWalker) (last : WalkStep) : TagWalker → List Tag → Type 0 where
  stops : {w : TagWalker} → (next w).0 ≡ last → Calls next last w []
  goes : {w : TagWalker} {t : Tag} {l : List Tag} → (next w).0 ≡ Ok (Some t) → Calls next last (next w).1 l → Calls next last w (t ∷ l)

pub record CallsTell (next : TagWalker → WalkStep × TagWalker) (tags : Bor (List ℕ)) : Type 0 where
  pub accepts : (l : List Tag) → Calls next (Ok None) (begun tags) l → decode lone_tags tags.now ≡ accepted (map (tag_of tags.now) l)
  pub refuses : (l : List Tag) (f : Fault) → Calls next (Err f) (begun tags) l → decode lone_tags tags.now ≡ decoding.refusal (fault_meaning f)
  pub comes : (l : List Tag) × (Calls next (Ok None) (begun tags) l ⊎ ((f : Fault) × Calls next (Err f) (begun tags) l))

-- A tag moves a walker on, and not past the bytes, so a caller's loop over the tags ends.
abbrev pub TagMoves : TagWalker → Type 0
TagMoves w = (t : Tag) (after : TagWalker) → Next w (Ok (Some t)) after → (w.at < after.at) × (after.at ≤ length w.tags.now)
