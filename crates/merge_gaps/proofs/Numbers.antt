-- The bounds of a record that is lent as numbers, and an outcome as numbers.
use Prim.Native.Nat.{ℕ, zero, suc, ◌+◌, ◌-◌, ◌*◌, ◌≤◌, ◌<◌}
use native.Mathlib.Omega.{arith}
use mathlib.Core.Path.{◌≡◌, refl, ap, ◌∙◌, subst}
use mathlib.Core.List.{List, [], ◌∷◌}
use lib.ListN.{length, get_or, take, drop, set}
use lib.Seq.{get_or-take, get_or-drop}
use borrow.Rule.Slice.PartMut.{mid_of, put_mid}
use Rattle.format.specs.Gaps.{Ordered}
use Rattle.format.specs.Writing.{overwritten}
use Rattle.output.proofs.Laws.{after}
use Rattle.gap_numbers.specs.NumberSteps.{Holds, gaps_in, gap_number_list}
use Rattle.gap_numbers.proofs.Numbers.{length-gap-numbers, last-numbers}
use Rattle.gap_numbers.proofs.Loops.{length-gaps}
use Rattle.merge_gaps.specs.Bounds.{no_bound, bounds_in, bound_after, OneSize, outcome}
use Rattle.merge_gaps.proofs.Merged.{Walked, walked_none, merged-count, merged-put}

abbrev pub RecordsWalked : (o a b old : List ℕ) (i j k kept : ℕ) (out : List ℕ) → Type 0
RecordsWalked o a b old i j k kept out =
    Walked (bounds_in o) (bounds_in a) (bounds_in b) (2 * get_or o 1 0) (2 * get_or a 1 0) (2 * get_or b 1 0) (suc (get_or o 0 0)) old i j k kept out

either-default : (l : List ℕ) (i d e : ℕ) → i < length l → get_or l i d ≡ get_or l i e
either-default [] i d e h = absurd (omega arith)
either-default (x ∷ l) zero d e h = refl
either-default (x ∷ l) (suc i) d e h = either-default l i d e (omega arith)

module _ {l : List ℕ} {n : ℕ} (h : Holds l n) where
  pub length-bounds : length (bounds_in l) ≡ 2 * n
  length-bounds = length-gap-numbers (gaps_in l) ∙ ap (λ k. 2 * k) (length-gaps l n h)

  pub bound_at : (i : ℕ) → i < 2 * n → bound_after (bounds_in l) i ≡ get_or l (i + 2) 0
  bound_at i k =
      let c = h.counted in
      let few = h.few in
      let long = h.long in
      let all : get_or l 1 0 - 0 ≡ n = omega arith in
      let numbers : bounds_in l ≡ take (2 * n) (drop 2 l) =
      last-numbers l long (omega arith) 0 (omega arith) ∙ ap (λ m. take (2 * m) (drop 2 l)) all in
      let there : 2 + i ≡ i + 2 = omega arith in
      ap (λ m. get_or m i no_bound) numbers ∙ get_or-take (2 * n) (drop 2 l) i no_bound k ∙ get_or-drop 2 l i no_bound ∙ ap (λ m. get_or l m no_bound) there
      ∙ either-default l (i + 2) no_bound 0 (omega arith)

-- The walk over the bounds of three records, from its beginning to its end
module _ {o a b : List ℕ} (s : OneSize o a b) where
  ordered-a : Ordered (get_or o 0 0) 0 (gaps_in a)
  ordered-a = subst (λ n. Ordered n 0 (gaps_in a)) s.first_size s.holds_first.ordered

  ordered-b : Ordered (get_or o 0 0) 0 (gaps_in b)
  ordered-b = subst (λ n. Ordered n 0 (gaps_in b)) s.second_size s.holds_second.ordered

  pub records-none : (old : List ℕ) → RecordsWalked o a b old 0 0 0 0 old
  records-none =
      walked_none (get_or o 0 0) (gaps_in o) (gaps_in a) (gaps_in b) s.holds_opened.ordered ordered-a ordered-b
      (length-bounds s.holds_opened) (length-bounds s.holds_first) (length-bounds s.holds_second)

  module _ {old : List ℕ} {i j k kept : ℕ} {out : List ℕ} (w : RecordsWalked o a b old i j k kept out)
      (all : 2 * get_or o 1 0 + 2 * get_or a 1 0 + 2 * get_or b 1 0 ≤ i + j + k) where
    pub records-count : kept ≡ 2 * length (outcome o a b)
    records-count = merged-count (get_or o 0 0) (gaps_in o) (gaps_in a) (gaps_in b) s.holds_opened.ordered ordered-a ordered-b w all

    pub records-put : out ≡ overwritten (gap_number_list (outcome o a b)) old
    records-put = merged-put (get_or o 0 0) (gaps_in o) (gaps_in a) (gaps_in b) s.holds_opened.ordered ordered-a ordered-b w all

-- The size and the number of gaps are put before what was put from place 2 on.
pub put-before : (numbers old new : List ℕ) (size count : ℕ) → 2 ≤ length old → new ≡ overwritten numbers (mid_of 2 (length old - 2) old)
    → set (set (put_mid 2 (length old - 2) old new) 0 size) 1 count ≡ overwritten (size ∷ count ∷ numbers) old
put-before numbers [] new size count h q = absurd (omega arith)
put-before numbers (x ∷ []) new size count h q = absurd (omega arith)
put-before numbers (x ∷ y ∷ old) new size count h q =
    ap (λ l. set (set l 0 size) 1 count) (after (x ∷ y ∷ []) numbers (x ∷ y ∷ old) (x ∷ y ∷ old) new 2 refl refl q)
