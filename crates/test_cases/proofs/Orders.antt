-- The calls in both orders, by the theorem of the order (gaps' specs/EitherOrder).
use mathlib.Core.Path.{◌≡◌, refl, ap, ◌∙◌}
use Rattle.std.specs.Prelude.{ℕ, Result, Ok}
use Rattle.format.specs.Gaps.{size_limit}
use Rattle.gaps.specs.declared.Gap.{Gap}
use Rattle.gaps.specs.declared.GapRecord.{GapRecord}
use Rattle.gaps.specs.declared.Marked.{Marked}
use Rattle.gaps.specs.declared.Unmarked.{Unmarked}
use Rattle.gaps.specs.GapRecords.{gap_of}
use Rattle.gaps.specs.Marking.{MarkOutcome, answer_meaning, mark_meaning, without_record}
use Rattle.gaps.specs.EitherOrder.{ByValue, MarkedInTurn}
use Rattle.gaps.proofs.EitherOrder.{by_value}
use Rattle.output.specs.declared.Refusal.{Refusal}
use Rattle.test_cases.specs.Orders.{MarkedInBothOrders, marked_one}

-- One call of `mark`
called : (g : GapRecord) (r : Gap) (a : Result Marked Unmarked) → mark_meaning a ≡ marked_one g r →
    ByValue size_limit g (gap_of r) (without_record a) (mark_meaning a).after
called g r a h = record { result = a; promised = h; answered = refl; left = refl }

zero : {m : Marked} (a : Result Marked Unmarked) → a ≡ Ok m → (answer_meaning (without_record a)).number ≡ 0
zero a e = rw e refl

-- Two calls, one after the other
in-turn : (g : GapRecord) (r q : Gap) {m n : Marked} (a b : Result Marked Unmarked) → mark_meaning a ≡ marked_one g r →
    mark_meaning b ≡ marked_one (mark_meaning a).after q → a ≡ Ok m → b ≡ Ok n →
    MarkedInTurn (ByValue size_limit) g (gap_of r) (gap_of q) (without_record b) (mark_meaning b).after
in-turn g r q a b h k x y = record {
  answer_between = without_record a;
  between = (mark_meaning a).after;
  one = called g r a h;
  one_accepted = zero a x;
  other = called (mark_meaning a).after q b k;
  other_accepted = zero b y;
}

-- An answer by its parts
marked-by-parts : (m n : Marked) {a b : Result Marked Unmarked} → a ≡ Ok m → b ≡ Ok n →
    without_record a ≡ without_record b → (mark_meaning a).after ≡ (mark_meaning b).after → m ≡ n
marked-by-parts m n x y e f =
    let missing : m.missing ≡ n.missing = ap (λ (a : Result ℕ Refusal). (answer_meaning a).missing) (rw (x, y) at e) in
    let after : m.after ≡ n.after = rw (x, y) at f in
    ap (λ k. record { missing = k; after = m.after }) missing ∙ ap (λ (g : GapRecord). record { missing = n.missing; after = g }) after

pub marked-both : (g u v : GapRecord) (a b : Gap) (first one second other : Result Marked Unmarked) →
    mark_meaning first ≡ marked_one g a → u ≡ (mark_meaning first).after → mark_meaning one ≡ marked_one u b →
    mark_meaning second ≡ marked_one g b → v ≡ (mark_meaning second).after → mark_meaning other ≡ marked_one v a →
    MarkedInBothOrders g a b (record { first = first; one = one; second = second; other = other })
marked-both g u v a b first one second other h d k i e j =
    let k' = rw d at k in
    let j' = rw e at j in
    record {
      first = h;
      one = k' ∙ ap (λ (m : MarkOutcome). marked_one m.after b) h;
      second = i;
      other = j' ∙ ap (λ (m : MarkOutcome). marked_one m.after a) i;
      equal =
          λ x m y n p q r s.
          let same =
          by_value size_limit g (gap_of a) (gap_of b) (without_record one) (without_record other) (mark_meaning one).after (mark_meaning other).after
          (in-turn g a b first one h k' p q) (in-turn g b a second other i j' r s) in
          marked-by-parts m n q s same.0 same.1;
    }
