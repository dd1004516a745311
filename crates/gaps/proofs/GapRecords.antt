-- Laws of gap records: the gaps that a record is made of, a walk over its places, and what a lawful one keeps.
use Prim.Native.Nat.{ℕ, suc, ◌+◌, ◌-◌, ◌≤◌, ◌<◌}
use native.Mathlib.Omega.{arith}
use native.Mathlib.Numerals.{add-one}
use mathlib.Core.Logic.{◌↔◌}
use mathlib.Core.Path.{◌≡◌, refl, ap, ◌∙◌}
use mathlib.Core.Bool.{true, ◌&&◌}
use mathlib.Core.List.{List, [], ◌∷◌, map}
use lib.ListN.{length, take, drop, get_or, replicate, length-take, length-map, get_or-map, drop_of_length-le}
use lib.Seq.{get_or-take, take_at, drop-cons}
use lib.Dec.{leb}
use borrow.Author.Tests.{le-leb, leb-true}
use Rattle.format.specs.Gaps.{Gap, gap, Ordered, Lawful, follows, ordered, lawful, total}
use Rattle.format.proofs.Gaps.{both_true, weaken, lawful-exactly, total-count}
use Rattle.gaps.specs.declared.Gap.{Gap as Place}
use Rattle.gaps.specs.declared.GapRecord.{GapRecord}
use Rattle.gaps.specs.GapRecords.{place, place_of, gap_of, gaps_of, spec_record_of, lawful_record, missing_count}

-- The gaps of a record

kept : (l : List Gap) → map gap_of (map place_of l) ≡ l
kept [] = refl
kept (g ∷ l) = rw (kept l) refl

pub gaps-of-record : (size : ℕ) (l : List Gap) → gaps_of (spec_record_of size l) ≡ l
gaps-of-record size l = rw (take_at (map place_of l) (replicate (64 - length l) (place 0 0)) (length l) (length-map l place_of)) (kept l)

-- A walk over places, as the loops go over those of a record: i gaps are passed.

-- at the end no gap is left
pub no-place-left : (places : List Place) (i : ℕ) → length places ≤ i → drop i (map gap_of places) ≡ []
no-place-left places i h = drop_of_length-le (map gap_of places) {i = i} (omega (arith, length-map places gap_of))

-- before the end: the next gap
module _ (places : List Place) (i : ℕ) (h : i < length places) where
  abbrev next : Place
  next = get_or places i (place 0 0)

  pub next-place : drop i (map gap_of places) ≡ gap_of next ∷ drop (i + 1) (map gap_of places)
  next-place =
      let m : i < length (map gap_of places) = omega (arith, length-map places gap_of) in
      drop-cons (map gap_of places) i (gap 0 0) m ∙ rw (get_or-map gap_of places i (place 0 0), add-one) refl

  pub next-ordered : (size low : ℕ) → ordered size low (drop i (map gap_of places))
      ≡ (follows size low (gap_of next) && ordered size (next.end + 1) (drop (i + 1) (map gap_of places)))
  unfolding ordered
  next-ordered size low = rw next-place refl

  pub next-Ordered : (size : ℕ) → Ordered size 0 (drop i (map gap_of places))
      → (next.start < next.end) × (next.end ≤ size) × Ordered size 0 (drop (i + 1) (map gap_of places))
  unfolding Ordered
  next-Ordered size o =
      let p : Ordered size 0 (gap_of next ∷ drop (i + 1) (map gap_of places)) = rw next-place at o in
      (p.1, p.2, weaken size (suc next.end) 0 (drop (i + 1) (map gap_of places)) (omega arith) p.3)

  pub next-total : total (drop i (map gap_of places)) ≡ (next.end - next.start) + total (drop (i + 1) (map gap_of places))
  unfolding total
  next-total = rw next-place refl

-- The same over a record by its count, for loops over other forms of it: i gaps are passed.
pub record At (g : GapRecord) (i : ℕ) : Type 0 where
  pub passed : i ≤ g.count
  pub few : g.count ≤ 64
  pub places : length g.gaps ≡ 64

abbrev pub place_at : GapRecord → ℕ → Place
place_at g i = get_or g.gaps i (place 0 0)

pub gaps-length : (g : GapRecord) (i : ℕ) → At g i → length (gaps_of g) ≡ g.count
gaps-length g i a = length-map (take g.count g.gaps) gap_of ∙ simp length-take (omega arith)

pub gap_at : (g : GapRecord) (i : ℕ) → i < g.count → get_or (gaps_of g) i (gap 0 0) ≡ gap_of (place_at g i)
gap_at g i h = get_or-map gap_of (take g.count g.gaps) i (place 0 0) ∙ ap gap_of (get_or-take g.count g.gaps i (place 0 0) h)

pub none_left : (g : GapRecord) (i : ℕ) → At g i → g.count ≤ i → drop i (gaps_of g) ≡ []
none_left g i a h = drop_of_length-le (gaps_of g) {i = i} (omega (arith, gaps-length g i a))

pub next-gap : (g : GapRecord) (i : ℕ) → At g i → i < g.count → drop i (gaps_of g) ≡ gap_of (place_at g i) ∷ drop (i + 1) (gaps_of g)
next-gap g i a h =
    let m : i < length (gaps_of g) = omega (arith, gaps-length g i a) in
    drop-cons (gaps_of g) i (gap 0 0) m ∙ rw (gap_at g i h, add-one) refl

-- Lawful records

few-gaps : (g : GapRecord) → g.count ≤ 64 → length (gaps_of g) ≤ 64
few-gaps g h = rw (length-map (take g.count g.gaps) gap_of) (simp length-take (omega arith))

-- a record with a lawful size and count is checked by its gaps
pub lawful-by-gaps : (limit : ℕ) (g : GapRecord) → g.count ≤ 64 → g.size ≤ limit
    → lawful_record limit g ≡ ordered g.size 0 (gaps_of g)
unfolding lawful_record lawful
lawful-by-gaps limit g h k = rw (le-leb g.count 64 h, le-leb g.size limit k, le-leb (length (gaps_of g)) 64 (few-gaps g h)) refl

-- the test says what the rules say
pub lawful-record-exactly : (limit : ℕ) (g : GapRecord)
    → (lawful_record limit g ≡ true) ↔ ((g.count ≤ 64) × Lawful limit g.size (gaps_of g))
unfolding lawful_record
lawful-record-exactly limit g = (
  λ h. let a = both_true (leb g.count 64) _ h in (leb-true _ _ a.0, (lawful-exactly limit g.size (gaps_of g)).0 a.1),
  λ p. rw (le-leb g.count 64 p.0) ((lawful-exactly limit g.size (gaps_of g)).1 p.1),
)

-- a lawful record's missing bytes, counted by the lengths of its gaps
pub total-missing : (limit : ℕ) (g : GapRecord) → lawful_record limit g ≡ true → total (gaps_of g) ≡ missing_count limit g
unfolding missing_count
total-missing limit g h =
    rw h (total-count g.size 0 (gaps_of g) ((lawful-record-exactly limit g).0 h).1.ordered)
