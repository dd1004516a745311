-- Gaps as numbers: those of a file that was read, and the merged ones.
use Prim.Native.Nat.{ℕ, zero, suc, ◌-◌, ◌*◌, ◌≤◌, ◌<◌}
use mathlib.Core.Path.{◌≡◌, refl, sym, ap, subst, ◌∙◌}
use mathlib.Core.List.{List, [], ◌∷◌, ◌++◌, map, append_assoc}
use native.Mathlib.Omega.{arith}
use lib.ListN.{length, drop, get_or, replicate, take, length-append, length-drop, length-replicate}
use Rattle.format.specs.Gaps.{Gap, Lawful, Ordered, size_limit}
use Rattle.format.specs.Rules.{SizeIs}
use Rattle.format.specs.GapTags as tagged
use Rattle.format.specs.Merging.{gaps_left}
use Rattle.format.specs.PutGaps.{tags_of}
use Rattle.format.specs.Writing.{overwritten}
use Rattle.format.proofs.PartMet.{size-dword}
use Rattle.format.proofs.PartTags.{check-means, gaps-ordered}
use Rattle.format.proofs.Regapped.{valid-tags}
use Rattle.gaps.specs.GapRecords.{gap_of, spec_record_of}
use Rattle.gap_numbers.specs.Numbers.{numbers_of, pair_numbers, pairs_in}
use Rattle.gap_numbers.specs.NumberSteps.{Holds, gap_number_list, gaps_in}
use Rattle.gap_numbers.proofs.Numbers.{length-gap-numbers, record-numbers}
use Rattle.part_tags.specs.Pairs.{first_gaps}
use Rattle.put_gaps.specs.Pieces.{LawfulNumbers}
use Rattle.put_gaps.proofs.Lengths.{tags-same}
use Rattle.merge_gaps.specs.Bounds.{OneSize, outcome}
use Rattle.merge.specs.declared.Read.{Read}
use Rattle.merge.specs.Choices.{Found, Reads, SameSizes, numbers_left, part_from}

-- The first gaps of so many pairs of numbers.
pairs_first : (n : ℕ) (gaps : List Gap) (rest : List ℕ) → length gaps ≤ n → map gap_of (take (length gaps) (pairs_in n (gap_number_list gaps ++ rest))) ≡ gaps
unfolding pairs_in pair_numbers
pairs_first n [] rest h = refl
pairs_first zero (g ∷ gaps) rest h = absurd (omega arith)
pairs_first (suc n) (g ∷ gaps) rest h = ap (λ l. g ∷ l) (pairs_first n gaps rest (omega arith))

pub gaps-held : (size : ℕ) (gaps : List Gap) (rest : List ℕ) → length gaps ≤ 64 → gaps_in (size ∷ length gaps ∷ (gap_number_list gaps ++ rest)) ≡ gaps
gaps-held size gaps rest h = pairs_first 64 gaps rest h

-- What the reader of a file says of its size and its gaps.
pub sized_of : (r : Read) → Reads r → SizeIs r.gaps.size (tags_of (part_from r))
sized_of r h = (check-means (tags_of (part_from r)) (r.gaps.size, tags_of (part_from r)) h.sized).1.0

pub sized-as : (r : Read) → Reads r → (n : ℕ) → r.gaps.size ≡ n → SizeIs n (tags_of (part_from r))
sized-as r h n e = subst (λ n. SizeIs n (tags_of (part_from r))) e (sized_of r h)

ordered_of : (r : Read) → Reads r →
    Ordered r.gaps.size 0 (tagged.gaps_of (tags_of (part_from r))) × (length (tagged.gaps_of (tags_of (part_from r))) ≤ 64)
ordered_of r h =
    gaps-ordered r.gaps.size (tags_of (part_from r)) (check-means (tags_of (part_from r)) (r.gaps.size, tags_of (part_from r)) h.sized).1.1

size_below : (r : Read) → Reads r → r.gaps.size < 4294967296
size_below r h = size-dword r.gaps.size (tags_of (part_from r)) (valid-tags (part_from r) h.read.valid.content) (sized_of r h)

-- Numbers that hold the gaps of a file.
pub record NumbersIn (r : Read) (l : List ℕ) : Type 0 where
  pub size : get_or l 0 0 ≡ r.gaps.size
  pub gaps : gaps_in l ≡ tagged.gaps_of (tags_of (part_from r))
  pub holds : Holds l (get_or l 1 0)

numbers-held : (r : Read) → Reads r → (gaps : List Gap) → gaps ≡ tagged.gaps_of (tags_of (part_from r)) →
    (l rest : List ℕ) → l ≡ r.gaps.size ∷ length gaps ∷ (gap_number_list gaps ++ rest) → 130 ≤ length l → NumbersIn r l
numbers-held r h gaps e l rest q long =
    let o = ordered_of r h in
    let few : length gaps ≤ 64 = rw e o.1 in
    let found : gaps_in l ≡ gaps = rw q (gaps-held r.gaps.size gaps rest few) in
    let size : get_or l 0 0 ≡ r.gaps.size = ap (λ k. get_or k 0 0) q in
    let count : get_or l 1 0 ≡ length gaps = ap (λ k. get_or k 1 0) q in
    record {
      size = size;
      gaps = found ∙ e;
      holds = record {
        long = long;
        counted = refl;
        few = omega (arith, count, few);
        ordered = rw (size, found, e) o.0;
      };
    }

pub numbers-found : (r : Read) (l old : List ℕ) → Found r →
    l ≡ overwritten (numbers_of (spec_record_of r.gaps.size (first_gaps r.bytes.now r.gaps.count r.starts.now))) old → NumbersIn r l
numbers-found r l old h q =
    let gaps = first_gaps r.bytes.now r.gaps.count r.starts.now in
    let e : gaps ≡ tagged.gaps_of (tags_of (part_from r)) = h.held.gaps ∙ ap tagged.gaps_of (sym (tags-same r.bytes.now r.part)) in
    let few : length gaps ≤ 64 = rw e (ordered_of r h.reads).1 in
    let zeros : List ℕ = replicate (2 * (64 - length gaps)) 0 in
    let numbers = q ∙ record-numbers r.gaps.size gaps old few ∙
    ap (λ k. r.gaps.size ∷ length gaps ∷ k) (append_assoc (gap_number_list gaps) zeros (drop 130 old)) in
    let long : 130 ≤ length l =
    omega (
      arith,
      ap length numbers,
      length-append (gap_number_list gaps) (zeros ++ drop 130 old),
      length-append zeros (drop 130 old),
      length-replicate {A = ℕ} (2 * (64 - length gaps)) 0,
      length-gap-numbers gaps,
      few,
    ) in
    numbers-held r h.reads gaps e l (zeros ++ drop 130 old) numbers long

-- Three of them, of one size.
module _ (opened first second : Read) (l m n : List ℕ) (opened-in : NumbersIn opened l) (first_in : NumbersIn first m)
    (second-in : NumbersIn second n) where
  pub one_size : Reads opened → SameSizes opened first second → OneSize l m n
  one_size h sizes = record {
    holds_opened = opened-in.holds;
    holds_first = first_in.holds;
    holds_second = second-in.holds;
    first_size = first_in.size ∙ sizes.0 ∙ sym opened-in.size;
    second_size = second-in.size ∙ sizes.1 ∙ sym opened-in.size;
    below = omega (arith, opened-in.size, size_below opened h);
  }

  pub merged-left : outcome l m n ≡ gaps_left opened.gaps.size (part_from opened) (part_from first) (part_from second)
  merged-left = rw (opened-in.size, opened-in.gaps, first_in.gaps, second-in.gaps) refl

-- The merged gaps, where a record has places for them.
module _ (size : ℕ) (gaps : List Gap) (few : length gaps ≤ 64) (l old : List ℕ) (q : l ≡ overwritten (numbers_left size gaps) old) where
  pub merged-held : gaps_in l ≡ gaps
  merged-held = ap gaps_in q ∙ gaps-held size gaps (drop (length (numbers_left size gaps)) old) few

  pub merged-lawful : 130 ≤ length old → Lawful size_limit size gaps → LawfulNumbers l
  merged-lawful room h =
      let n = length (numbers_left size gaps) in
      let long = length-append (numbers_left size gaps) (drop n old) in (
        omega (arith, ap length q, long, length-drop n old, room),
        (
          omega (arith, ap (λ k. get_or k 1 0) q, few),
          subst (λ n. Lawful size_limit n (gaps_in l)) (sym (ap (λ k. get_or k 0 0) q)) (rw merged-held h),
        ),
      )
