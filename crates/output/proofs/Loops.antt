-- Laws of a loop that writes one piece after the other: with `wrote` bytes of all written, those of the other pieces are left.
use Prim.Native.Nat.{ℕ, ◌+◌, ◌-◌, ◌≤◌}
use native.Mathlib.Omega.{arith}
use mathlib.Core.Path.{◌≡◌, refl, sym, ap, ◌∙◌}
use mathlib.Core.List.{List, [], ◌++◌}
use borrow.Rule.Slice.PartMut.{mid_of, put_mid}
use lib.ListN.{length, take, drop, length-append, length-drop}
use lib.Seq.{take-length, length-take-le, take-add, drop-drop, take-append_seam, drop-append_seam}
use Rattle.format.specs.Writing.{overwritten}
use Rattle.output.proofs.Laws.{after, length-overwritten}

module _ (all old : List ℕ) where
  pub record WrittenSoFar (out : List ℕ) (wrote : ℕ) (left : List ℕ) : Type 0 where
    pub ahead : drop wrote all ≡ left
    pub within : wrote ≤ length all
    pub holds : out ≡ overwritten (take wrote all) old
    pub same_length : length out ≡ length old

  pub written_none : WrittenSoFar old 0 all
  written_none = record { ahead = refl; within = omega arith; holds = refl; same_length = refl }

  pub written_all : (out : List ℕ) (wrote : ℕ) (left : List ℕ) → WrittenSoFar out wrote left → left ≡ [] →
      (wrote ≡ length all) × (out ≡ overwritten all old)
  written_all out wrote left w none =
      let n : wrote ≡ length all = omega (arith, w.within, ap length (w.ahead ∙ none), length-drop wrote all) in
      (n, w.holds ∙ ap (λ l. overwritten l old) (ap (λ k. take k all) n ∙ take-length all))

  -- the next piece, and what is left after it
  module _ (room : length all ≤ length old) (out : List ℕ) (wrote : ℕ) (left piece later : List ℕ)
      (w : WrittenSoFar out wrote left) (next : left ≡ piece ++ later) where
    pub piece-room : wrote + length piece ≤ length all
    piece-room = omega (arith, w.within, ap length (w.ahead ∙ next), length-drop wrote all, length-append piece later)

    taken : take (wrote + length piece) all ≡ take wrote all ++ piece
    taken =
        take-add wrote (length piece) all ∙
        ap (λ l. take wrote all ++ l) (ap (take (length piece)) (w.ahead ∙ next) ∙ take-append_seam piece later)

    pub written_next : (new : List ℕ) → new ≡ overwritten piece (mid_of wrote (length out - wrote) out) →
        WrittenSoFar (put_mid wrote (length out - wrote) out new) (wrote + length piece) later
    written_next new q =
        let holds : put_mid wrote (length out - wrote) out new ≡ overwritten (take (wrote + length piece) all) old =
        after (take wrote all) piece old out new wrote (length-take-le wrote all w.within) w.holds q ∙
        ap (λ l. overwritten l old) (sym taken) in
        let short : length (take (wrote + length piece) all) ≡ wrote + length piece = length-take-le (wrote + length piece) all piece-room in
        record {
          ahead = sym (drop-drop (length piece) wrote all) ∙ ap (drop (length piece)) (w.ahead ∙ next) ∙ drop-append_seam piece later;
          within = piece-room;
          holds = holds;
          same_length = ap length holds ∙ length-overwritten (take (wrote + length piece) all) old (omega (arith, piece-room));
        }
