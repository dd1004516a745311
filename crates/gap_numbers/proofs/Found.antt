-- The gaps of the pairs at offsets as numbers: a turn of the loop that puts them, and the record that they make with 0 after them.
use Prim.Native.Nat.{ℕ, ◌+◌, ◌-◌, ◌*◌, ◌≤◌}
use native.Mathlib.Omega.{arith}
use native.Mathlib.Numerals.{add-one}
use mathlib.Core.Path.{◌≡◌, refl, sym, ap, ◌∙◌}
use mathlib.Core.List.{List, [], ◌∷◌, ◌++◌}
use lib.ListN.{length, get_or, drop, replicate}
use borrow.Rule.Slice.PartMut.{mid_of, put_mid}
use Rattle.format.specs.Gaps.{Gap}
use Rattle.format.specs.Writing.{overwritten}
use Rattle.output.proofs.Laws.{after}
use Rattle.gaps.specs.declared.Gap.{Gap as Place}
use Rattle.gaps.specs.GapRecords.{place_of, spec_record_of}
use Rattle.part_tags.specs.Pairs.{first_gaps, start_of, end_of, gap_in}
use Rattle.part_tags.proofs.GapTags.{slots-record}
use Rattle.gap_numbers.specs.Numbers.{pair_numbers, numbers_of}
use Rattle.gap_numbers.specs.NumberSteps.{gap_number_list, cleared}
use Rattle.gap_numbers.proofs.Numbers.{length-gap-numbers, gap-numbers-append, record-numbers}
use Rattle.gap_numbers.proofs.Moves.{cleared-after}

module _ (s starts old : List ℕ) (n : ℕ) where
  abbrev found : List Gap
  found = first_gaps s n starts

  -- the numbers of the next pair
  abbrev pair : List ℕ
  pair = start_of s (get_or starts n 0) ∷ end_of s (get_or starts n 0) ∷ []

  counted : n ≡ length found
  counted = ap (λ g. g.count) (slots-record s 0 n starts)

  length_found : length (gap_number_list found) ≡ 2 * n
  length_found = length-gap-numbers found ∙ ap (λ k. 2 * k) (sym counted)

  found-more : gap_number_list found ++ pair ≡ gap_number_list (first_gaps s (n + 1) starts)
  unfolding first_gaps pair_numbers
  found-more = rw (add-one n) (sym (gap-numbers-append found (gap_in s (get_or starts n 0) ∷ [])))

  pub found-next : {out new : List ℕ} {x : Place} → x ≡ place_of (gap_in s (get_or starts n 0)) → out ≡ overwritten (gap_number_list found) old
      → new ≡ overwritten (x.start ∷ x.end ∷ []) (mid_of (2 * n) (length out - 2 * n) out)
      → put_mid (2 * n) (length out - 2 * n) out new ≡ overwritten (gap_number_list (first_gaps s (n + 1) starts)) old
  found-next {out} {new} read put putting =
      let pair_put = putting ∙ ap (λ x. overwritten (x.start ∷ x.end ∷ []) (mid_of (2 * n) (length out - 2 * n) out)) read in
      after (gap_number_list found) pair old out new (2 * n) length_found put pair_put ∙ ap (λ r. overwritten r old) found-more

  pub found-record : (size : ℕ) {out new : List ℕ} → n ≤ 64 → out ≡ overwritten (size ∷ n ∷ []) old
      → new ≡ overwritten (gap_number_list found) (mid_of 2 (length out - 2) out)
      → cleared (put_mid 2 (length out - 2) out new) (2 * n + 2) ≡ overwritten (numbers_of (spec_record_of size found)) old
  found-record size {out} {new} few put putting =
      let last = 2 * n + 2 in
      let kept = size ∷ n ∷ gap_number_list found in
      let long : length kept ≡ last = omega (arith, length_found) in
      let pairs-put : put_mid 2 (length out - 2) out new ≡ kept ++ drop last old =
      after (size ∷ n ∷ []) (gap_number_list found) old out new 2 refl put putting ∙ ap (λ k. kept ++ drop k old) long in
      let zeros : 130 - last ≡ 2 * (64 - n) = omega arith in
      let few-found : length found ≤ 64 = omega (arith, counted) in
      ap (λ r. cleared r last) pairs-put ∙ cleared-after kept old last long (omega arith)
      ∙ ap (λ k. (kept ++ replicate k 0) ++ drop 130 old) zeros
      ∙ ap (λ k. (size ∷ k ∷ (gap_number_list found ++ replicate (2 * (64 - k)) 0)) ++ drop 130 old) counted
      ∙ sym (record-numbers size found old few-found)
