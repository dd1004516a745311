-- Laws of the steps of a marking: gaps are added to a record while places are free.
use Prim.Native.Nat.{ℕ, suc, ◌+◌, ◌-◌, ◌≤◌, ◌<◌, min, max}
use native.Mathlib.Omega.{arith}
use native.Mathlib.Decide.{dec_le, dec_lt}
use native.Mathlib.Numerals.{add-one}
use mathlib.Core.Path.{◌≡◌, refl, ap, ◌∙◌}
use mathlib.Core.Bool.{Bool, true, false, cond}
use mathlib.Core.List.{List, [], ◌∷◌, ◌++◌, map, map-append, append_assoc, append-nil}
use lib.ListN.{length, get_or, take, drop, set, replicate, get_or-map, length-append, length-map, take-append-drop}
use lib.Seq.{take_all, take-suc, append_snoc, set_at}
use lib.Dec.{ltb}
use borrow.Author.Tests.{lt-ltb, le-ltb, le-leb, lt-leb}
use Rattle.std.specs.Prelude.{Some, None}
use Rattle.format.specs.Gaps.{Gap, gap, between, remaining, subtract}
use Rattle.gaps.specs.declared.Gap.{Gap as Place}
use Rattle.gaps.specs.declared.GapRecord.{GapRecord}
use Rattle.gaps.specs.GapRecords.{place, place_of, gap_of, gaps_of, spec_record_of}
use Rattle.gaps.specs.MarkingSteps.{pushed, pushed_remaining, subtracted}

one_more : (size : ℕ) (l : List Gap) (x : Gap) → length l < 64
    → ◌≡◌ {A = GapRecord} (record { size = size; count = length l + 1; gaps = set (spec_record_of size l).gaps (length l) (place_of x) })
    (spec_record_of size (l ++ (x ∷ [])))
one_more size l x h =
    let k : 64 - length l ≡ suc (64 - (length l + 1)) = omega arith in
    let free = replicate (64 - (length l + 1)) (place 0 0) in
    rw (k, set_at (map place_of l) (place 0 0) free (place_of x) (length l) (length-map l place_of), length-append, map-append, append_snoc) refl

-- where a place is free for it, a gap is added; else the record is full
push-room : (size a b : ℕ) (l : List Gap) → length (l ++ between a b) ≤ 64 → pushed (spec_record_of size l) a b ≡ Some (spec_record_of size (l ++ between a b))
unfolding pushed between
push-room size a b l h = go (dec_lt a b) h
  where
    go : Dec (a < b) → length (l ++ between a b) ≤ 64 → pushed (spec_record_of size l) a b ≡ Some (spec_record_of size (l ++ between a b))
    go (yes t) m =
        let e = lt-ltb a b t in
        let m' : length (l ++ (gap a b ∷ [])) ≤ 64 = rw e at m in
        let r : length l < 64 = omega (arith, simp length-append at m') in
        rw (e, lt-ltb (length l) 64 r, one_more size l (gap a b) r) refl
    go (no f) m = rw (le-ltb a b (omega arith), append-nil) refl

-- an empty record has room for a gap
pub push_first : (size a b : ℕ) → pushed (spec_record_of size []) a b ≡ Some (spec_record_of size (between a b))
unfolding between
push_first size a b = push-room size a b [] (go (ltb a b))
  where
    go : (t : Bool) → length (cond t (gap a b ∷ []) []) ≤ 64
    go true = omega arith
    go false = omega arith

push-full : (size a b : ℕ) (l : List Gap) → length l ≤ 64 → 64 < length (l ++ between a b) → pushed (spec_record_of size l) a b ≡ None
unfolding pushed between
push-full size a b l k h = go (dec_lt a b) h
  where
    go : Dec (a < b) → 64 < length (l ++ between a b) → pushed (spec_record_of size l) a b ≡ None
    go (yes t) m =
        let e = lt-ltb a b t in
        let m' : 64 < length (l ++ (gap a b ∷ [])) = rw e at m in
        let r : 64 ≤ length l = omega (arith, simp length-append at m') in
        rw (e, le-ltb (length l) 64 r) refl
    go (no f) m =
        let m' : 64 < length (l ++ []) = rw (le-ltb a b (omega arith)) at m in
        absurd (omega (arith, simp append-nil at m'))

-- the same of what is left of a gap
module _ (size : ℕ) (l : List Gap) (x : Gap) (s e : ℕ) where
  abbrev left : List Gap
  left = between x.start (min x.end s)

  abbrev right : List Gap
  right = between (max x.start e) x.end

  remaining-room : length (l ++ remaining x s e) ≤ 64 → pushed_remaining (spec_record_of size l) x s e ≡ Some (spec_record_of size (l ++ remaining x s e))
  unfolding pushed_remaining remaining
  remaining-room h =
      let k : length (l ++ left) ≤ 64 = simp length-append (omega (arith, simp length-append at h)) in
      let m : length ((l ++ left) ++ right) ≤ 64 = rw append_assoc h in
      rw (push-room size x.start (min x.end s) l k) (push-room size (max x.start e) x.end (l ++ left) m ∙ rw append_assoc refl)

  remaining-full : length l ≤ 64 → 64 < length (l ++ remaining x s e) → pushed_remaining (spec_record_of size l) x s e ≡ None
  unfolding pushed_remaining remaining
  remaining-full k h = go (dec_le (length (l ++ left)) 64)
    where
      go : Dec (length (l ++ left) ≤ 64) → pushed_remaining (spec_record_of size l) x s e ≡ None
      go (yes r) =
          rw (push-room size x.start (min x.end s) l r) (push-full size (max x.start e) x.end (l ++ left) r (rw append_assoc h))
      go (no f) = rw (push-full size x.start (min x.end s) l k (omega arith)) refl

-- The loop of a subtraction: i places are passed, and the record made holds what is left of their gaps.
pub record Made (size : ℕ) (places : List Place) (s e i : ℕ) (made : GapRecord) : Type 0 where
  pub holds : made ≡ spec_record_of size (subtract (take i (map gap_of places)) s e)
  pub few : length (subtract (take i (map gap_of places)) s e) ≤ 64

subtract-append : (l m : List Gap) (s e : ℕ) → subtract (l ++ m) s e ≡ subtract l s e ++ subtract m s e
unfolding subtract
subtract-append [] m s e = refl
subtract-append (x ∷ l) m s e = rw (subtract-append l m s e, append_assoc) refl

subtract-grows : (l : List Gap) (i s e : ℕ) → length (subtract (take i l) s e) ≤ length (subtract l s e)
subtract-grows l i s e =
    let q = subtract-append (take i l) (drop i l) s e in
    let r : length (subtract l s e) ≡ length (subtract (take i l) s e ++ subtract (drop i l) s e) = rw take-append-drop at (ap length q) in
    omega (arith, simp length-append at r)

-- a turn of the loop
module _ (g : GapRecord) (s e i : ℕ) (made : GapRecord) (m : Made g.size (take g.count g.gaps) s e i made) (h : i < length (take g.count g.gaps)) where
  abbrev so_far : List Gap
  so_far = subtract (take i (gaps_of g)) s e

  abbrev then : List Gap
  then = subtract (take (i + 1) (gaps_of g)) s e

  abbrev next : Place
  next = get_or (take g.count g.gaps) i (place 0 0)

  one-gap-more : then ≡ so_far ++ remaining (gap_of next) s e
  unfolding subtract
  one-gap-more =
      let k : i < length (gaps_of g) = omega (arith, length-map (take g.count g.gaps) gap_of) in
      rw (add-one, take-suc (gaps_of g) i (gap 0 0), subtract-append, append-nil, get_or-map gap_of (take g.count g.gaps) i (place 0 0)) refl

  room : length then ≤ 64 → pushed_remaining made (gap_of next) s e ≡ Some (spec_record_of g.size then)
  room k = rw m.holds (remaining-room g.size so_far (gap_of next) s e (rw one-gap-more at k) ∙ rw one-gap-more refl)

  no_room : 64 < length then → pushed_remaining made (gap_of next) s e ≡ None
  no_room k = rw m.holds (remaining-full g.size so_far (gap_of next) s e m.few (rw one-gap-more at k))

  pub made_more : (after : GapRecord) → pushed_remaining made (gap_of next) s e ≡ Some after → Made g.size (take g.count g.gaps) s e (i + 1) after
  made_more after f = go (dec_le (length then) 64)
    where
      go : Dec (length then ≤ 64) → Made g.size (take g.count g.gaps) s e (i + 1) after
      go (yes k) = let r = room k in record { holds = cc; few = k }
      go (no k) = let r = no_room (omega arith) in absurd cc

  pub made-full : pushed_remaining made (gap_of next) s e ≡ None → subtracted g s e ≡ None
  unfolding subtracted
  made-full f = go (dec_le (length then) 64)
    where
      go : Dec (length then ≤ 64) → subtracted g s e ≡ None
      go (yes k) = let r = room k in absurd cc
      go (no k) = rw (lt-leb (length (subtract (gaps_of g) s e)) 64 (omega (arith, subtract-grows (gaps_of g) (i + 1) s e))) refl

pub made_all : (g : GapRecord) (s e i : ℕ) (made : GapRecord) → Made g.size (take g.count g.gaps) s e i made → length (take g.count g.gaps) ≤ i
    → subtracted g s e ≡ Some made
unfolding subtracted
made_all g s e i made m h =
    let t = take_all i (gaps_of g) (omega (arith, length-map (take g.count g.gaps) gap_of)) in
    let few : length (subtract (gaps_of g) s e) ≤ 64 = rw t at m.few in
    rw (le-leb (length (subtract (gaps_of g) s e)) 64 few, m.holds, t) refl
