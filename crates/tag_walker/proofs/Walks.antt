-- The laws of specs/Walks.antt. For every list of bytes one walk is found, with what it tells (`whole`); and two walks from one place are the same.
use Prim.Native.Nat.{ℕ, zero, suc, ◌-◌, ◌<◌, ◌≤◌}
use mathlib.Core.Path.{◌≡◌, refl, sym, ap, ◌∙◌, ap₂, subst, subst₂}
use mathlib.Core.Bool.{Bool, true, false}
use mathlib.Core.Logic.{◌⊎◌, inl, inr}
use mathlib.Core.List.{List, [], ◌∷◌, map}
use native.Mathlib.Omega.{arith}
use lib.ListN.{length}
use lib.Dec.{eqb, ltb, leb}
use denote.Ref.{Bor}
use borrow.Author.Tests.{eq-eqb, ne_eqb, eqb-true, ltb-true, ltb-false}
use Rattle.format.specs.Tables.{pick}
use Rattle.format.specs.Messages as messages
use Rattle.format.specs.Messages.{lone_tags}
use Rattle.format.specs.Rules.{ceiling}
use Rattle.format.specs.Decoding as decoding
use Rattle.format.specs.Decoding.{fault, rest, bytes_ceiling, Answer, Outcome, refused, got, and_then, pure, decode_many, finish, accepted}
use Rattle.format.specs.Order.{decode_dword, decode_tag, decode_counted, decode_tags}
use Rattle.format.specs.MetOrder.{decode}
use Rattle.format.proofs.Differ.{differ}
use Rattle.format.proofs.There.{dword-ends}
use Rattle.std.specs.Prelude.{Some, None, Ok, Err}
use Rattle.wire.specs.declared.Fault.{Fault}
use Rattle.wire.specs.WireAnswers.{fault_meaning}
use Rattle.tags.specs.declared.Tag.{Tag}
use Rattle.tags.specs.TagAnswers.{tag_of}
use Rattle.tag_walker.specs.declared.TagWalker.{TagWalker}
use Rattle.tag_walker.specs.Walk as walk
use Rattle.tag_walker.specs.Walk.{WalkStep, Walk, tag, end, walk_of, spec_walk_from, begin, spec_walk_at, step_meaning, begun}
use Rattle.tag_walker.proofs.TagEnds.{tag-ends}
use Rattle.tag_walker.specs.Walks as calls
use Rattle.tag_walker.specs.Walks.{Walks, stops, goes, WalkTells, Keeps, Calls, CallsTell, TagMoves}

-- A walk with these tags and this last step tells an answer.
data Told (a : Answer (List messages.Tag)) : List messages.Tag → Walk → Type 0 where
  accepts : {l : List messages.Tag} → a ≡ accepted l → Told a l end
  refuses : {l : List messages.Tag} {f : decoding.Fault} → a ≡ decoding.refusal f → Told a l (walk.refusal f)

record Whole (s : List ℕ) (at left : ℕ) (a : Answer (List messages.Tag)) : Type 0 where
  tags : List messages.Tag
  last : Walk
  walks : Walks s last at left tags
  told : Told a tags last

-- A tag in front.
told-cons : (s : List ℕ) (t : messages.Tag) (o : Outcome (List messages.Tag)) {l : List messages.Tag} {last : Walk} →
    Told (finish s o) l last → Told (finish s (and_then s o (λ l. pure (t ∷ l)))) (t ∷ l) last
told-cons s t (refused f) (accepts e) = differ cc
told-cons s t (refused f) (refuses e) = refuses e
told-cons s t (got l p) h = go (eqb p (length s)) h
  where
    go : (b : Bool) {k : List messages.Tag} {last : Walk} →
        Told (pick b (accepted l) (decoding.refusal (fault rest p 1))) k last → Told (pick b (accepted (t ∷ l)) (decoding.refusal (fault rest p 1))) (t ∷ k) last
    go true {k} (accepts e) = accepts {l = t ∷ k} cc
    go true (refuses e) = differ cc
    go false (accepts e) = differ cc
    go false (refuses e) = refuses e

module _ (s : List ℕ) where
  -- After the beginning a step depends on the place and what is left.
  behind : (at left : ℕ) → 0 < at → spec_walk_at s at left ≡ spec_walk_from s at left
  unfolding spec_walk_at
  behind at left h = rw (ne_eqb at 0 (λ e. omega arith)) refl

  step-none : (at : ℕ) → 0 < at → spec_walk_at s at 0 ≡ pick (ltb at (length s)) (walk.refusal (fault rest at 1)) end
  unfolding spec_walk_from
  step-none at h = behind at 0 h

  step-some : (at n : ℕ) → 0 < at → spec_walk_at s at (suc n) ≡ walk_of (decode_tag s at) n
  unfolding spec_walk_from
  step-some at n h = let k : suc n - 1 ≡ n = omega arith in behind at (suc n) h ∙ rw (ne_eqb (suc n) 0 (λ e. omega arith), k) refl

  -- Where the first step is the same, the walk is.
  restart : {last : Walk} {at left from count : ℕ} {l : List messages.Tag} →
      spec_walk_at s from count ≡ spec_walk_at s at left → Walks s last at left l → Walks s last from count l
  restart q (stops e) = stops (q ∙ e)
  restart q (goes e w) = goes (q ∙ e) w

  -- The walk over no tags from a place on, and over one more than a walk from each later place.
  last_step : (at : ℕ) → 0 < at → at ≤ length s → (b : Bool) → ltb at (length s) ≡ b → Whole s at 0 (finish s (got [] at))
  last_step at some h true q = record {
    tags = [];
    last = walk.refusal (fault rest at 1);
    walks = stops (step-none at some ∙ rw q refl);
    told = refuses (rw (ne_eqb at (length s) (λ e. omega (arith, ltb-true at (length s) q))) refl);
  }
  last_step at some h false q = record {
    tags = [];
    last = end;
    walks = stops (step-none at some ∙ rw q refl);
    told = accepts {l = []} (rw (eq-eqb at (length s) (omega (arith, ltb-false at (length s) q))) refl);
  }

  one_more : (n at : ℕ) → 0 < at → ((next : ℕ) → 0 < next → next ≤ length s → Whole s next n (finish s (decode_many n decode_tag s next))) →
      (o : Outcome messages.Tag) → decode_tag s at ≡ o →
      Whole s at (suc n) (finish s (and_then s o (λ t s at. and_then s (decode_many n decode_tag s at) (λ l. pure (t ∷ l)))))
  one_more n at some later (refused f) q = record {
    tags = [];
    last = walk_of (refused f) n;
    walks = stops (step-some at n some ∙ ap (λ o. walk_of o n) q);
    told = refuses refl;
  }
  one_more n at some later (got t next) q =
      let i = tag-ends s q in
      let w = later next (omega (arith, i.0)) i.1 in
      record {
        tags = t ∷ w.tags;
        last = w.last;
        walks = goes (step-some at n some ∙ ap (λ o. walk_of o n) q) w.walks;
        told = told-cons s t (decode_many n decode_tag s next) w.told;
      }

  from : (n at : ℕ) → 0 < at → at ≤ length s → Whole s at n (finish s (decode_many n decode_tag s at))
  from zero at some h = last_step at some h (ltb at (length s)) refl
  from (suc n) at some h = one_more n at some (λ next. from n next) (decode_tag s at) refl

  -- At the beginning come the ceiling and the count.
  start : (b : Bool) → leb (length s) (ceiling lone_tags) ≡ b → spec_walk_at s 0 0 ≡ pick b (begin s (decode_dword s 0)) (walk.refusal (fault bytes_ceiling 0 (length s)))
  unfolding spec_walk_at
  start b q = rw q refl

  counted : leb (length s) (ceiling lone_tags) ≡ true → (o : Outcome ℕ) → decode_dword s 0 ≡ o →
      Whole s 0 0 (finish s (and_then s o (λ n. decode_many n decode_tag)))
  counted c (refused f) q = record {
    tags = [];
    last = begin s (refused f);
    walks = stops (start true c ∙ ap (begin s) q);
    told = refuses refl;
  }
  counted c (got n first) q =
      let d = dword-ends s 0 q in
      let some : 0 < first = omega (arith, d.1) in
      let w = from n first some (omega (arith, d.0, d.1)) in
      record {
        tags = w.tags;
        last = w.last;
        walks = restart (start true c ∙ ap (begin s) q ∙ sym (behind first n some)) w.walks;
        told = w.told;
      }

  by-ceiling : (b : Bool) → leb (length s) (ceiling lone_tags) ≡ b →
      Whole s 0 0 (pick b (finish s (decode_tags s 0)) (decoding.refusal (fault bytes_ceiling 0 (length s))))
  unfolding decode_tags decode_counted
  by-ceiling false c = record { tags = []; last = walk.refusal (fault bytes_ceiling 0 (length s)); walks = stops (start false c); told = refuses refl }
  by-ceiling true c = counted c (decode_dword s 0) refl

  whole : Whole s 0 0 (decode lone_tags s)
  unfolding decode
  whole = by-ceiling (leb (length s) (ceiling lone_tags)) refl

-- A walk stops at a step that is no tag, and two walks from one place are the same.
abbrev Stop : Walk → Type 0
Stop (tag t next left) = ⊥
Stop end = Unit {0}
Stop (walk.refusal f) = Unit {0}

told-stops : {a : Answer (List messages.Tag)} {l : List messages.Tag} {last : Walk} → Told a l last → Stop last
told-stops (accepts e) = tt
told-stops (refuses e) = tt

module _ {s : List ℕ} where
  -- After one tag two walks go on from one place.
  same_place : {last : Walk} {t u : messages.Tag} {at left next more : ℕ} {l : List messages.Tag} →
      tag t at left ≡ tag u next more → Walks s last at left l → Walks s last next more l
  same_place {last} {at = at} {left} {next} {more} {l} e w =
      let a : at ≡ next = cc in
      let b : left ≡ more = cc in
      subst₂ (λ at left. Walks s last at left l) a b w

  same-walk : {last last' : Walk} {at left : ℕ} {l l' : List messages.Tag} → Stop last → Stop last' →
      Walks s last at left l → Walks s last' at left l' → (last ≡ last') × (l ≡ l')
  same-walk a b (stops e) (stops f) = (sym e ∙ f, refl)
  same-walk a b (stops e) (goes f v) = absurd (subst Stop (sym e ∙ f) a)
  same-walk a b (goes e w) (stops f) = absurd (subst Stop (sym f ∙ e) b)
  same-walk a b (goes {t = t} e w) (goes {t = u} f v) =
      let q = sym f ∙ e in
      let x : t ≡ u = cc in
      let i = same-walk a b w (same_place q v) in
      (i.0, ap₂ (λ t l. t ∷ l) x i.1)

  only-walk : {a : Answer (List messages.Tag)} {last : Walk} {l : List messages.Tag} → Whole s 0 0 a → Stop last → Walks s last 0 0 l → Told a l last
  only-walk {a} x stop w =
      let q = same-walk (told-stops x.told) stop x.walks w in
      subst₂ (λ l last. Told a l last) q.1 q.0 x.told

  ended : {a : Answer (List messages.Tag)} {l k : List messages.Tag} {last : Walk} → Walks s last 0 0 k → Told a k last → a ≡ accepted l → Walks s end 0 0 l
  ended {l = l} {k} w (accepts h) e = let p = sym h ∙ e in let q : k ≡ l = cc in subst (λ l. Walks s end 0 0 l) q w
  ended w (refuses h) e = let p = sym h ∙ e in differ cc

  stopped : {a : Answer (List messages.Tag)} {l : List messages.Tag} {last : Walk} → Walks s last 0 0 l → Told a l last →
      Walks s end 0 0 l ⊎ ((f : decoding.Fault) × Walks s (walk.refusal f) 0 0 l)
  stopped w (accepts e) = inl w
  stopped w (refuses {f = f} e) = inr (f, w)

-- what an end and a refusal tell
accepted-as : {a : Answer (List messages.Tag)} {l : List messages.Tag} → Told a l end → a ≡ accepted l
accepted-as (accepts e) = e

refused-for : {a : Answer (List messages.Tag)} {l : List messages.Tag} {f : decoding.Fault} → Told a l (walk.refusal f) → a ≡ decoding.refusal f
refused-for (refuses e) = e

pub walk-tells : (s : List ℕ) → WalkTells s
walk-tells s =
    let x = whole s in
    record {
      accepts = λ l. (λ w. accepted-as (only-walk x tt w), λ e. ended x.walks x.told e);
      refuses = λ l f w. refused-for (only-walk x tt w);
      comes = (x.tags, stopped x.walks x.told);
    }

-- What a step stands for tells the step.
as-tag : (s : List ℕ) (r : WalkStep) (at left : ℕ) {t : messages.Tag} {next more : ℕ} → step_meaning s r at left ≡ tag t next more →
    (u : Tag) × ((r ≡ Ok (Some u)) × ((at ≡ next) × (left ≡ more)))
as-tag s (Ok (Some u)) at left e = (u, (refl, (cc, cc)))
as-tag s (Ok None) at left e = differ cc
as-tag s (Err f) at left e = differ cc

as-end : (s : List ℕ) (r : WalkStep) (at left : ℕ) → step_meaning s r at left ≡ end → r ≡ Ok None
as-end s (Ok (Some u)) at left e = differ cc
as-end s (Ok None) at left e = refl
as-end s (Err f) at left e = differ cc

as-refusal : {x : decoding.Fault} (s : List ℕ) (r : WalkStep) (at left : ℕ) → step_meaning s r at left ≡ walk.refusal x → (f : Fault) × (r ≡ Err f)
as-refusal s (Ok (Some u)) at left e = differ cc
as-refusal s (Ok None) at left e = differ cc
as-refusal s (Err f) at left e = (f, refl)

module _ (next : TagWalker → WalkStep × TagWalker) (keeps : Keeps next) (tags : Bor (List ℕ)) where
  abbrev s : List ℕ
  s = tags.now

  -- What a call on a walker over these tags gives, and that the walker stays over them.
  step : (w : TagWalker) → w.tags ≡ tags → step_meaning s (next w).0 (next w).1.at (next w).1.left ≡ spec_walk_at s w.at w.left
  step w e = subst (λ x. step_meaning x.now (next w).0 (next w).1.at (next w).1.left ≡ spec_walk_at x.now w.at w.left) e (keeps w).1.0

  over : (w : TagWalker) → w.tags ≡ tags → (next w).1.tags ≡ tags
  over w e = (keeps w).0 ∙ e

  -- Calls are a walk, and a walk is found by calls.
  calls-walk : {last : WalkStep} {w : TagWalker} {l : List Tag} (stop : Walk) → ((at left : ℕ) → step_meaning s last at left ≡ stop) →
      w.tags ≡ tags → Calls next last w l → Walks s stop w.at w.left (map (tag_of s) l)
  calls-walk {w = w} stop stands e (calls.stops q) =
      stops (sym (step w e) ∙ ap (λ r. step_meaning s r (next w).1.at (next w).1.left) q ∙ stands (next w).1.at (next w).1.left)
  calls-walk {w = w} stop stands e (calls.goes q c) =
      goes (sym (step w e) ∙ ap (λ r. step_meaning s r (next w).1.at (next w).1.left) q) (calls-walk stop stands (over w e) c)

  walk-calls : {stop : Walk} {at left : ℕ} {l : List messages.Tag} (Last : WalkStep → Type 0) →
      ((r : WalkStep) (at left : ℕ) → step_meaning s r at left ≡ stop → Last r) →
      (w : TagWalker) → w.tags ≡ tags → w.at ≡ at → w.left ≡ left → Walks s stop at left l →
      (l : List Tag) × ((last : WalkStep) × (Last last × Calls next last w l))
  walk-calls Last is w e a b (stops q) = ([], ((next w).0, (is _ _ _ (step w e ∙ ap₂ (spec_walk_at s) a b ∙ q), calls.stops refl)))
  walk-calls Last is w e a b (goes q v) =
      let x = as-tag s (next w).0 (next w).1.at (next w).1.left (step w e ∙ ap₂ (spec_walk_at s) a b ∙ q) in
      let c = walk-calls Last is (next w).1 (over w e) x.1.1.0 x.1.1.1 v in
      (x.0 ∷ c.0, (c.1.0, (c.1.1.0, calls.goes x.1.0 c.1.1.1)))

  found : (l : List messages.Tag) → Walks s end 0 0 l ⊎ ((f : decoding.Fault) × Walks s (walk.refusal f) 0 0 l) →
      (l : List Tag) × (Calls next (Ok None) (begun tags) l ⊎ ((f : Fault) × Calls next (Err f) (begun tags) l))
  found l (inl v) =
      let c = walk-calls (λ r. r ≡ Ok None) (as-end s) (begun tags) refl refl refl v in
      (c.0, inl (subst (λ r. Calls next r (begun tags) c.0) c.1.1.0 c.1.1.1))
  found l (inr v) =
      let c = walk-calls (λ r. (f : Fault) × (r ≡ Err f)) (as-refusal s) (begun tags) refl refl refl v.1 in
      (c.0, inr (c.1.1.0.0, subst (λ r. Calls next r (begun tags) c.0) c.1.1.0.1 c.1.1.1))

pub calls-tell : (next : TagWalker → WalkStep × TagWalker) → Keeps next → (tags : Bor (List ℕ)) → CallsTell next tags
calls-tell next keeps tags =
    let x = walk-tells tags.now in
    record {
      accepts = λ l c. (x.accepts (map (tag_of tags.now) l)).0 (calls-walk next keeps tags end (λ at left. refl) refl c);
      refuses = λ l f c. x.refuses (map (tag_of tags.now) l) (fault_meaning f) (calls-walk next keeps tags (walk.refusal (fault_meaning f)) (λ at left. refl) refl c);
      comes = found next keeps tags x.comes.0 x.comes.1;
    }

-- The step at a place that is after the count, or is not.
from-moves : (s : List ℕ) (at left : ℕ) {t : messages.Tag} {next more : ℕ} → spec_walk_from s at left ≡ tag t next more → (at < next) × (next ≤ length s)
unfolding spec_walk_from
from-moves s at left {t} {next} {more} e = go (eqb left 0) e
  where
    none : (b : Bool) {P : Type 0} → pick b (walk.refusal (fault rest at 1)) end ≡ tag t next more → P
    none true e = differ cc
    none false e = differ cc

    some : (o : Outcome messages.Tag) → walk_of o (left - 1) ≡ tag t next more → o ≡ got t next
    some (refused f) e = differ cc
    some (got u p) e = cc

    go : (b : Bool) → pick b (pick (ltb at (length s)) (walk.refusal (fault rest at 1)) end) (walk_of (decode_tag s at) (left - 1)) ≡ tag t next more → (at < next) × (next ≤ length s)
    go true e = none (ltb at (length s)) e
    go false e = tag-ends s (some (decode_tag s at) e)

begin-moves : (s : List ℕ) (o : Outcome ℕ) {t : messages.Tag} {next more : ℕ} → begin s o ≡ tag t next more → (0 < next) × (next ≤ length s)
begin-moves s (refused f) e = differ cc
begin-moves s (got count first) e = let x = from-moves s first count e in (omega (arith, x.0), x.1)

at-moves : (s : List ℕ) (at left : ℕ) {t : messages.Tag} {next more : ℕ} → spec_walk_at s at left ≡ tag t next more → (at < next) × (next ≤ length s)
unfolding spec_walk_at
at-moves s at left {t} {next} {more} e = go (eqb at 0) refl e
  where
    within : (b : Bool) → pick b (begin s (decode_dword s 0)) (walk.refusal (fault bytes_ceiling 0 (length s))) ≡ tag t next more → (0 < next) × (next ≤ length s)
    within true e = begin-moves s (decode_dword s 0) e
    within false e = differ cc

    go : (b : Bool) → eqb at 0 ≡ b → pick b (pick (leb (length s) (ceiling lone_tags)) (begin s (decode_dword s 0)) (walk.refusal (fault bytes_ceiling 0 (length s)))) (spec_walk_from s at left) ≡ tag t next more →
        (at < next) × (next ≤ length s)
    go true q e = let x = within (leb (length s) (ceiling lone_tags)) e in (omega (arith, eqb-true at 0 q, x.0), x.1)
    go false q e = from-moves s at left e

pub tag-moves : (w : TagWalker) → TagMoves w
tag-moves w t after h = at-moves w.tags.now w.at w.left (sym h.1.0)
