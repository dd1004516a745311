-- A gap record and its numbers: a turn of the loop that puts the pairs, and the record of the numbers.
use Prim.Native.Nat.{ℕ, ◌+◌, ◌-◌, ◌*◌, ◌≤◌, ◌<◌}
use native.Mathlib.Omega.{arith}
use native.Mathlib.Numerals.{add-one}
use mathlib.Core.Path.{◌≡◌, refl, ap, ◌∙◌}
use mathlib.Core.Bool.{true}
use mathlib.Core.List.{List, [], ◌∷◌, ◌++◌}
use lib.ListN.{length, drop, length-append, drop_of_length-le}
use lib.Seq.{drop-cons}
use borrow.Rule.Slice.PartMut.{mid_of, put_mid}
use borrow.Author.Tests.{le-leb, leb-true}
use lib.Dec.{leb}
use Rattle.format.specs.Gaps.{size_limit}
use Rattle.format.specs.Writing.{overwritten}
use Rattle.format.proofs.PartTags.{either-test, no_true}
use Rattle.output.proofs.Loops.{WrittenSoFar, piece-room, written_next, written_all}
use Rattle.gaps.specs.declared.Gap.{Gap as Place}
use Rattle.gaps.specs.declared.GapRecord.{GapRecord}
use Rattle.gaps.specs.GapRecords.{place, lawful_record}
use Rattle.gaps.proofs.GapRecords.{place_at}
use Rattle.gap_numbers.specs.Numbers.{pair_numbers, numbers_of, pairs_in, held, record_in}
use Rattle.gap_numbers.proofs.Numbers.{length-numbers}

pub record PairsWritten (g : GapRecord) (old out : List ℕ) (i : ℕ) : Type 0 where
  pub places : length g.gaps ≡ 64
  pub written : WrittenSoFar (pair_numbers g.gaps) old out (2 * i) (pair_numbers (drop i g.gaps))

room : (g : GapRecord) (old : List ℕ) → length g.gaps ≡ 64 → 128 ≤ length old → length (pair_numbers g.gaps) ≤ length old
room g old e h = omega (arith, length-numbers g.gaps)

module _ {g : GapRecord} {old : List ℕ} (fits : 128 ≤ length old) {out : List ℕ} {i : ℕ} (w : PairsWritten g old out i) where
  pub pairs-all : 64 ≤ i → out ≡ overwritten (pair_numbers g.gaps) old
  unfolding pair_numbers
  pairs-all h =
      let none : pair_numbers (drop i g.gaps) ≡ [] = rw (drop_of_length-le g.gaps {i = i} (omega (arith, w.places))) refl in
      (written_all (pair_numbers g.gaps) old out (2 * i) (pair_numbers (drop i g.gaps)) w.written none).1

  module _ (h : i < 64) where
    next : pair_numbers (drop i g.gaps) ≡ ((place_at g i).start ∷ (place_at g i).end ∷ []) ++ pair_numbers (drop (i + 1) g.gaps)
    unfolding pair_numbers
    next = rw (drop-cons g.gaps i (place 0 0) (omega (arith, w.places)), add-one) refl

    pub pair-room : 2 * i + 2 ≤ length out
    pair-room =
        let r = room g old w.places fits in
        let p = piece-room (pair_numbers g.gaps) old r out (2 * i) _ ((place_at g i).start ∷ (place_at g i).end ∷ []) _ w.written next in
        omega (arith, r, p, w.written.same_length)

    pub pairs_next : {new : List ℕ} → new ≡ overwritten ((place_at g i).start ∷ (place_at g i).end ∷ []) (mid_of (2 * i) (length out - 2 * i) out) →
        PairsWritten g old (put_mid (2 * i) (length out - 2 * i) out new) (i + 1)
    pairs_next {new} q =
        let r = room g old w.places fits in
        let more : 2 * (i + 1) ≡ 2 * i + 2 = omega arith in
        record {
          places = w.places;
          written = rw more (written_next (pair_numbers g.gaps) old r out (2 * i) _ ((place_at g i).start ∷ (place_at g i).end ∷ []) _ w.written next new q);
        }

-- The record of the numbers

module _ (l : List ℕ) where
  in-numbers : 130 ≤ length l → record_in l ≡ held l
  unfolding record_in
  in-numbers h = rw (le-leb 130 (length l) h) refl

  -- only numbers enough for a record are one that is lawful
  pub lawful-numbers : lawful_record size_limit (record_in l) ≡ true → (130 ≤ length l) × (record_in l ≡ held l)
  unfolding record_in lawful_record
  lawful-numbers h = either-test (leb 130 (length l)) (λ t. (leb-true 130 (length l) t, rw t refl)) (λ t. absurd (no_true (rw t at h)))

pairs-back : (places : List Place) (rest : List ℕ) → pairs_in (length places) (pair_numbers places ++ rest) ≡ places
unfolding pairs_in pair_numbers
pairs-back [] rest = refl
pairs-back (x ∷ l) rest = ap (λ m. x ∷ m) (pairs-back l rest)

pub record-back : (g : GapRecord) (rest : List ℕ) → length g.gaps ≡ 64 → record_in (numbers_of g ++ rest) ≡ g
record-back g rest e =
    let long : 130 ≤ length (numbers_of g ++ rest) = omega (arith, length-append (pair_numbers g.gaps) rest, length-numbers g.gaps) in
    let back : pairs_in 64 (pair_numbers g.gaps ++ rest) ≡ g.gaps = rw (← e) (pairs-back g.gaps rest) in
    in-numbers (numbers_of g ++ rest) long ∙ rw back refl
