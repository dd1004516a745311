-- Order does not matter (specs/EitherOrder): of a merge by its exchange and its one answer, of the saves by the merge that they are, of the
-- markings by the gap list that both orders leave.
use mathlib.Core.Path.{◌≡◌, sym, ap, subst, ◌∙◌}
use mathlib.Core.List.{List}
use Prim.Native.Nat.{ℕ}
use Rattle.format.specs.Messages.{part_met}
use Rattle.format.specs.Gaps.{Gap, count, missing, subtract}
use Rattle.format.specs.Writing.{Written}
use Rattle.format.specs.Demands.{Accepted}
use Rattle.format.specs.EitherOrder.{EitherOrder, MarkEitherOrder, MarkedInTurn, MergeEitherOrder, SaveEitherOrder, SaveExchanged, SavedInTurn, TwoWindows}
use Rattle.format.specs.Saving.{Saves}
use Rattle.format.proofs.Demands.{leaves-marked}
use Rattle.format.proofs.Commutes.{merge-exchanged, merge-one-refused}
use Rattle.format.proofs.Intervals.{either_order}
use Rattle.format.proofs.Merging.{merge-once}
use Rattle.format.proofs.Saving.{over-opened-stored, save-merges}

merge-either-order : MergeEitherOrder
merge-either-order opened first second output v w h m n =
    merge-once opened second first output v w (merge-exchanged opened first second output v h m) n

save-exchanged : SaveExchanged
save-exchanged stored opened new output w h d s =
    merge-exchanged opened stored new output w h (save-merges stored opened new output w s d h.1.1)

save-either-order : SaveEitherOrder
save-either-order stored opened new output v w h d e s t =
    merge-once opened new stored output v w (save-exchanged stored opened new output v h d s) (save-merges new opened stored output w t e h.1.0)

-- What the first window saved is a part.met, and the second window finds it stored.
first-stored : {opened first second output : List ℕ} {w : Written} → SavedInTurn opened first second output w →
    Accepted part_met first × Saves first opened second output w
first-stored {opened} {first} {second} {output} {w} t =
    let s = over-opened-stored opened first t.lent t.one t.saved t.accepted in
    (s.0, subst (λ stored. Saves stored opened second output w) s.1 t.other)

two-windows : TwoWindows
two-windows opened first second output v w h d e s t =
    let a = first-stored s in
    let b = first-stored t in
    save-either-order first opened second output v w (h, (a.0, b.0)) d e a.1 b.1

-- Two markings leave what two subtractions leave.
left-in-turn : {limit size : ℕ} {gaps : List Gap} {first second : Gap} {left : List Gap} {n : ℕ} → MarkedInTurn limit size gaps first second left n →
    (subtract (subtract gaps first.start first.end) second.start second.end ≡ left) × (count (missing left) size ≡ n)
left-in-turn {limit} {size} {gaps} {first} {second} t =
    let a = leaves-marked limit size gaps first t.one in
    let b = leaves-marked limit size t.between second t.other in
    (ap (λ l. subtract l second.start second.end) a.remains ∙ b.remains, ap (λ l. count (missing l) size) (sym b.remains) ∙ b.counted)

mark-either-order : MarkEitherOrder
mark-either-order limit size gaps first second left n left' n' s t =
    let a = leaves-marked limit size gaps first s.one in
    let b = leaves-marked limit size gaps second t.one in
    let same = either_order size gaps first.start first.end second.start second.end a.order b.order a.lawful.ordered in
    let equal : left ≡ left' = sym (left-in-turn s).0 ∙ same ∙ (left-in-turn t).0 in
    (equal, sym (left-in-turn s).1 ∙ ap (λ l. count (missing l) size) equal ∙ (left-in-turn t).1)

pub either-order-holds : EitherOrder
either-order-holds = record {
  merge_exchanged = merge-exchanged;
  merge_one_refused = merge-one-refused;
  merge_either_order = merge-either-order;
  save_exchanged = save-exchanged;
  save_either_order = save-either-order;
  two_windows = two-windows;
  mark_either_order = mark-either-order;
}
