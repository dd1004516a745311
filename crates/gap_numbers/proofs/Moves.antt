-- Laws of numbers that are changed in place: what a move, the pieces and the clearing come to together.
use Prim.Native.Nat.{ℕ, ◌+◌, ◌-◌, ◌≤◌}
use native.Mathlib.Omega.{arith}
use mathlib.Core.Path.{◌≡◌, refl, sym, ap, ◌∙◌}
use mathlib.Core.List.{List, ◌++◌, append_assoc}
use lib.ListN.{length, take, drop, replicate, length-append, length-drop, length-replicate, take-append-drop}
use lib.Seq.{paste, take_all, take_at, drop_at, take-take, take-append-le, drop-append-add, drop-drop, length-take-le}
use borrow.Rule.Slice.PartMut.{mid_of, put_mid}
use Rattle.format.specs.Writing.{overwritten}
use Rattle.output.proofs.Laws.{after}
use Rattle.gap_numbers.specs.NumberSteps.{cleared}

-- Numbers that end at `last`, and 0 after them up to the end of the record
pub cleared-after : (kept l : List ℕ) (last : ℕ) → length kept ≡ last → last ≤ 130 → cleared (kept ++ drop last l) last ≡ (kept ++ replicate (130 - last) 0) ++ drop 130 l
cleared-after kept l last length-kept few =
    let e : last + (130 - last) ≡ 130 = omega arith in
    let n : 130 ≡ length kept + (130 - last) = omega arith in
    let zeros : take (130 - last) (replicate {A = ℕ} (130 - last) 0) ≡ replicate (130 - last) 0 =
    take_all (130 - last) (replicate (130 - last) 0) (omega (arith, length-replicate {A = ℕ} (130 - last) 0)) in
    let rest : drop 130 (kept ++ drop last l) ≡ drop 130 l =
    ap (λ k. drop k (kept ++ drop last l)) n ∙ drop-append-add kept (drop last l) (130 - last) ∙ drop-drop (130 - last) last l
    ∙ ap (λ k. drop k l) e in
    rw (e, take_at kept (drop last l) last length-kept, rest, zeros) refl

-- The numbers from `from` are moved to stand later the pieces at `at`, and those after them are cleared.
module _ (l pieces : List ℕ) (at from to count last : ℕ) (fits : at + length pieces ≡ to) (ends : to + count ≡ last) (few : last ≤ 130) (long : 130 ≤ length l)
    (inside : from + count ≤ length l) (first : List ℕ) (w : first ≡ paste l to (drop from l) count) where
  abbrev kept : List ℕ
  kept = (take at l ++ pieces) ++ take count (drop from l)

  length-kept : length kept ≡ last
  length-kept =
      let p : count ≤ length (drop from l) = simp length-drop (omega arith) in
      simp length-append (omega (arith, length-take-le at l (omega arith), length-take-le count (drop from l) p))

  length_to : length (take to l) ≡ to
  length_to = length-take-le to l (omega arith)

  before : take at first ≡ take at l
  before =
      rw (w, append_assoc)
      (take-append-le at (take to l) (take count (drop from l) ++ drop (to + count) l) (omega (arith, length_to)) ∙ take-take at to l (omega arith))

  later : drop to first ≡ take count (drop from l) ++ drop (to + count) l
  later = rw (w, append_assoc) (drop_at (take to l) (take count (drop from l) ++ drop (to + count) l) to length_to)

  module _ (new : List ℕ) (q : new ≡ overwritten pieces (mid_of at (length first - at) first)) where
    pieces-put : put_mid at (length first - at) first new ≡ kept ++ drop last l
    pieces-put =
        let m : length (take at first) ≡ at = ap length before ∙ length-take-le at l (omega arith) in
        let n : length (take at first ++ pieces) ≡ to = simp length-append (omega (arith, m)) in
        let over : first ≡ overwritten (take at first) first = sym (take-append-drop at first) ∙ ap (λ k. take at first ++ drop k first) (sym m) in
        after (take at first) pieces first first new at m over q
        ∙ ap (λ k. (take at first ++ pieces) ++ drop k first) n
        ∙ rw (before, later, ends) (sym (append_assoc (take at l ++ pieces) (take count (drop from l)) (drop last l)))

    pub all-put : cleared (put_mid at (length first - at) first new) last ≡ (kept ++ replicate (130 - last) 0) ++ drop 130 l
    all-put = ap (λ r. cleared r last) pieces-put ∙ cleared-after kept l last length-kept few
