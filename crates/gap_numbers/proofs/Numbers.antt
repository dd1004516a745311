-- Laws of a gap record as numbers: a walk over its gaps, and the numbers of the first gaps, of the last gaps and of a record made.
use Prim.Native.Nat.{ℕ, zero, suc, ◌+◌, ◌-◌, ◌*◌, ◌≤◌, ◌<◌}
use native.Mathlib.Omega.{arith}
use native.Mathlib.Numerals.{add-one}
use mathlib.Core.Path.{◌≡◌, refl, sym, ap, ◌∙◌}
use mathlib.Core.List.{List, [], ◌∷◌, ◌++◌, map, map-append}
use lib.ListN.{length, get_or, take, drop, replicate, length-append, length-map, length-drop, length-replicate}
use lib.Seq.{get_or-drop, take-suc, take-nil, drop-nil, take-take, take-add, drop-drop, drop_at, length-take-le}
use Rattle.format.specs.Gaps.{Gap, gap}
use Rattle.format.specs.Writing.{overwritten}
use Rattle.gaps.specs.declared.Gap.{Gap as Place}
use Rattle.gaps.specs.GapRecords.{place, place_of, gap_of, spec_record_of}
use Rattle.gaps.proofs.GapRecords.{At, place_at, gaps-length, gap_at, next-gap}
use Rattle.gap_numbers.specs.Numbers.{pair_numbers, numbers_of, pairs_in, held}
use Rattle.gap_numbers.specs.NumberSteps.{gaps_in, gap_number_list}

-- The gaps of the numbers

length_pairs : (n : ℕ) (l : List ℕ) → length (pairs_in n l) ≡ n
unfolding pairs_in
length_pairs zero l = refl
length_pairs (suc n) l = ap suc (length_pairs n (drop 2 l))

pair-at : (n : ℕ) (l : List ℕ) (i : ℕ) → i < n → get_or (pairs_in n l) i (place 0 0) ≡ place (get_or l (2 * i) 0) (get_or l (2 * i + 1) 0)
unfolding pairs_in
pair-at zero l i h = absurd (omega arith)
pair-at (suc n) l zero h = refl
pair-at (suc n) l (suc i) h =
    let a : 2 * suc i ≡ 2 + 2 * i = omega arith in
    let b : 2 + 2 * i + 1 ≡ 2 + (2 * i + 1) = omega arith in
    pair-at n (drop 2 l) i (omega arith) ∙ rw (a, b, get_or-drop 2 l (2 * i) 0, get_or-drop 2 l (2 * i + 1) 0) refl

abbrev pub nth_gap : List ℕ → ℕ → Gap
nth_gap l i = gap (get_or l (2 * i + 2) 0) (get_or l (2 * i + 3) 0)

pub at : (l : List ℕ) (i : ℕ) → i ≤ get_or l 1 0 → get_or l 1 0 ≤ 64 → At (held l) i
at l i h k = record { passed = h; few = k; places = length_pairs 64 (drop 2 l) }

module _ (l : List ℕ) (i : ℕ) (h : i < get_or l 1 0) (k : get_or l 1 0 ≤ 64) where
  place_in : place_at (held l) i ≡ place (get_or l (2 * i + 2) 0) (get_or l (2 * i + 3) 0)
  place_in =
      let a : 2 + 2 * i ≡ 2 * i + 2 = omega arith in
      let b : 2 + (2 * i + 1) ≡ 2 * i + 3 = omega arith in
      pair-at 64 (drop 2 l) i (omega arith) ∙ rw (get_or-drop 2 l (2 * i) 0, get_or-drop 2 l (2 * i + 1) 0, a, b) refl

  pub drop-in : drop i (gaps_in l) ≡ nth_gap l i ∷ drop (i + 1) (gaps_in l)
  drop-in = next-gap (held l) i (at l i (omega arith) k) h ∙ ap (λ x. gap_of x ∷ drop (i + 1) (gaps_in l)) place_in

  pub take_in : take (i + 1) (gaps_in l) ≡ take i (gaps_in l) ++ nth_gap l i ∷ []
  take_in =
      let m : i < length (gaps_in l) = omega (arith, gaps-length (held l) i (at l i (omega arith) k)) in
      rw (add-one, take-suc (gaps_in l) i (gap 0 0) m, gap_at (held l) i h, place_in) refl

-- The numbers of the gaps

pub length-numbers : (l : List Place) → length (pair_numbers l) ≡ 2 * length l
unfolding pair_numbers
length-numbers [] = refl
length-numbers (x ∷ l) = let e = length-numbers l in omega arith

numbers-append : (l m : List Place) → pair_numbers (l ++ m) ≡ pair_numbers l ++ pair_numbers m
unfolding pair_numbers
numbers-append [] m = refl
numbers-append (x ∷ l) m = rw (numbers-append l m) refl

pub length-gap-numbers : (gaps : List Gap) → length (gap_number_list gaps) ≡ 2 * length gaps
length-gap-numbers gaps = length-numbers (map place_of gaps) ∙ ap (λ n. 2 * n) (length-map gaps place_of)

pub gap-numbers-append : (gaps more : List Gap) → gap_number_list (gaps ++ more) ≡ gap_number_list gaps ++ gap_number_list more
gap-numbers-append gaps more = rw map-append (numbers-append (map place_of gaps) (map place_of more))

no-numbers : (k : ℕ) → pair_numbers (replicate k (place 0 0)) ≡ replicate (2 * k) 0
unfolding pair_numbers
no-numbers zero = refl
no-numbers (suc k) = let e : 2 * suc k ≡ suc (suc (2 * k)) = omega arith in rw (e, no-numbers k) refl

numbers-take : (i : ℕ) (gaps : List Gap) → gap_number_list (take i gaps) ≡ take (2 * i) (gap_number_list gaps)
unfolding pair_numbers
numbers-take zero gaps = refl
numbers-take (suc i) [] = sym (take-nil (2 * suc i))
numbers-take (suc i) (x ∷ gaps) = let e : 2 * suc i ≡ suc (suc (2 * i)) = omega arith in rw (e, numbers-take i gaps) refl

numbers-drop : (i : ℕ) (gaps : List Gap) → gap_number_list (drop i gaps) ≡ drop (2 * i) (gap_number_list gaps)
unfolding pair_numbers
numbers-drop zero gaps = refl
numbers-drop (suc i) [] = sym (drop-nil (2 * suc i))
numbers-drop (suc i) (x ∷ gaps) = let e : 2 * suc i ≡ suc (suc (2 * i)) = omega arith in rw (e, numbers-drop i gaps) refl

places-back : (places : List Place) → map place_of (map gap_of places) ≡ places
places-back [] = refl
places-back (x ∷ places) = ap (λ l. x ∷ l) (places-back places)

pairs-numbers : (n k : ℕ) (l : List ℕ) → n ≤ k → 2 * k ≤ length l → pair_numbers (take n (pairs_in k l)) ≡ take (2 * n) l
unfolding pair_numbers pairs_in
pairs-numbers zero k l h m = refl
pairs-numbers (suc n) zero l h m = absurd (omega arith)
pairs-numbers (suc n) (suc k) [] h m = absurd (omega arith)
pairs-numbers (suc n) (suc k) (x ∷ []) h m = absurd (omega arith)
pairs-numbers (suc n) (suc k) (x ∷ y ∷ l) h m =
    let e : 2 * suc n ≡ suc (suc (2 * n)) = omega arith in
    rw (e, pairs-numbers n k l (omega arith) (omega arith)) refl

module _ (l : List ℕ) (long : 130 ≤ length l) (few : get_or l 1 0 ≤ 64) where
  abbrev count : ℕ
  count = get_or l 1 0

  all-numbers : gap_number_list (gaps_in l) ≡ take (2 * count) (drop 2 l)
  all-numbers =
      rw (places-back (take count (pairs_in 64 (drop 2 l))))
      (pairs-numbers count 64 (drop 2 l) few (simp length-drop (omega arith)))

  module _ (i : ℕ) (h : i ≤ count) where
    pub first-numbers : gap_number_list (take i (gaps_in l)) ≡ take (2 * i) (drop 2 l)
    first-numbers =
        numbers-take i (gaps_in l) ∙ ap (take (2 * i)) all-numbers ∙ take-take (2 * i) (2 * count) (drop 2 l) (omega arith)

    pub last-numbers : gap_number_list (drop i (gaps_in l)) ≡ take (2 * (count - i)) (drop (2 * i + 2) l)
    last-numbers =
        let k : 2 * count ≡ 2 * i + 2 * (count - i) = omega arith in
        let m : 2 + 2 * i ≡ 2 * i + 2 = omega arith in
        let short : length (take (2 * i) (drop 2 l)) ≡ 2 * i = length-take-le (2 * i) (drop 2 l) (simp length-drop (omega arith)) in
        numbers-drop i (gaps_in l)
        ∙ ap (drop (2 * i)) (all-numbers ∙ ap (λ j. take j (drop 2 l)) k ∙ take-add (2 * i) (2 * (count - i)) (drop 2 l))
        ∙ drop_at (take (2 * i) (drop 2 l)) (take (2 * (count - i)) (drop (2 * i) (drop 2 l))) (2 * i) short
        ∙ rw (drop-drop (2 * i) 2 l, m) refl

-- The record of these gaps at the front: 0 after the last of them
pub record-numbers : (size : ℕ) (gaps : List Gap) (l : List ℕ) → length gaps ≤ 64
    → overwritten (numbers_of (spec_record_of size gaps)) l ≡ (size ∷ length gaps ∷ (gap_number_list gaps ++ replicate (2 * (64 - length gaps)) 0)) ++ drop 130 l
record-numbers size gaps l few =
    let numbers = gap_number_list gaps ++ replicate (2 * (64 - length gaps)) 0 in
    let long : suc (suc (length numbers)) ≡ 130 = simp (length-append, length-replicate, length-gap-numbers) (omega arith) in
    let all : numbers_of (spec_record_of size gaps) ≡ size ∷ length gaps ∷ numbers =
    rw (numbers-append (map place_of gaps) (replicate (64 - length gaps) (place 0 0)), no-numbers (64 - length gaps)) refl in
    ap (λ r. overwritten r l) all ∙ ap (λ k. (size ∷ length gaps ∷ numbers) ++ drop k l) long
