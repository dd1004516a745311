-- Two markings leave the same in either order (specs/EitherOrder): their gaps by the format's law of subtraction, and the record and the count
-- by their gaps.
use Prim.Native.Nat.{ℕ}
use mathlib.Core.Path.{◌≡◌, refl, sym, ap, subst, ◌∙◌}
use mathlib.Core.List.{List}
use native.Mathlib.Omega.{arith}
use Rattle.std.specs.Prelude.{Result, Ok, Err}
use Rattle.format.specs.Gaps.{Gap, count, missing, subtract}
use Rattle.format.proofs.Intervals.{either_order}
use Rattle.gaps.specs.declared.GapRecord.{GapRecord}
use Rattle.gaps.specs.GapRecords.{gaps_of}
use Rattle.gaps.specs.declared.Marked.{Marked}
use Rattle.gaps.specs.declared.Unmarked.{Unmarked}
use Rattle.gaps.specs.Marking.{MarkAnswer, MarkOutcome, acceptance, answer_meaning, answer_of, mark_meaning, marked, without_record}
use Rattle.gaps.specs.EitherOrder.{ByValue, EitherOrder, InPlace, MarkedInTurn}
use Rattle.output.specs.declared.Refusal.{Refusal}
use Rattle.output.proofs.Refusals.{not-accepted}
use Rattle.gaps.proofs.Marking.{accepted-as, gaps-after, size-after, zero-exactly}

-- the number of a marking is the one that its answer has
pub number-told : {a : MarkAnswer} (m : MarkOutcome) → a ≡ answer_of m → a.number ≡ 0 → m.number ≡ 0
number-told m e z = sym (ap (λ (x : MarkAnswer). x.number) e) ∙ z

-- accepted answers that stand for the same are equal
same-answers : (a b : Result ℕ Refusal) → (answer_meaning a).number ≡ 0 → (answer_meaning b).number ≡ 0 → answer_meaning a ≡ answer_meaning b → a ≡ b
same-answers (Ok m) (Ok n) h k e = ap (λ (x : MarkAnswer). Ok x.missing) e
same-answers (Ok m) (Err r) h k e = absurd (omega (arith, k, not-accepted r))
same-answers (Err r) b h k e = absurd (omega (arith, h, not-accepted r))

module _ (limit : ℕ) where
  abbrev after : GapRecord → Gap → MarkOutcome
  after g r = marked limit g r.start r.end

  -- the second of two markings that are accepted
  in-turn : (g : GapRecord) (r q : Gap) → (after g r).number ≡ 0 → (after (after g r).after q).number ≡ 0 →
      let left = subtract (subtract (gaps_of g) r.start r.end) q.start q.end in
      after (after g r).after q ≡ acceptance g left (count (missing left) g.size)
  in-turn g r q h k =
      accepted-as limit (after g r).after q.start q.end k
      ∙ rw (size-after limit g r.start r.end, gaps-after limit g r.start r.end h) refl

  pub same-marked : (g : GapRecord) (r q : Gap) → (after g r).number ≡ 0 → (after (after g r).after q).number ≡ 0 →
      (after g q).number ≡ 0 → (after (after g q).after r).number ≡ 0 → after (after g r).after q ≡ after (after g q).after r
  same-marked g r q h k i j =
      let m = ((zero-exactly limit g r.start r.end).0 h).0 in
      let n = ((zero-exactly limit g q.start q.end).0 i).0 in
      in-turn g r q h k
      ∙ ap (λ (l : List Gap). acceptance g l (count (missing l) g.size))
      (either_order g.size (gaps_of g) r.start r.end q.start q.end m.order n.order m.lawful.ordered)
      ∙ sym (in-turn g q r i j)

  -- two markings in place, neither refused, are two markings whose number is 0
  record Accepted (g : GapRecord) (r q : Gap) (a : Result ℕ Refusal) (h : GapRecord) : Type 0 where
    one : (after g r).number ≡ 0
    other : (after (after g r).after q).number ≡ 0
    answered : answer_meaning a ≡ answer_of (after (after g r).after q)
    left : h ≡ (after (after g r).after q).after

  accepted : {g h : GapRecord} {r q : Gap} {a : Result ℕ Refusal} → MarkedInTurn (InPlace limit) g r q a h → Accepted g r q a h
  accepted {g} {h} {r} {q} {a} t =
      let other = subst (λ x. InPlace limit x q a h) t.one.1 t.other in
      record {
        one = number-told (after g r) t.one.0 t.one_accepted;
        other = number-told (after (after g r).after q) other.0 t.other_accepted;
        answered = other.0;
        left = other.1;
      }

  pub in_place : EitherOrder (InPlace limit)
  in_place g r q a b h k s t =
      let x = accepted s in
      let y = accepted t in
      let same = same-marked g r q x.one x.other y.one y.other in
      (same-answers a b s.other_accepted t.other_accepted (x.answered ∙ ap answer_of same ∙ sym y.answered), x.left ∙ ap (λ (m : MarkOutcome). m.after) same ∙ sym y.left)

  -- a marking by value is one in place, of a record that is passed on
  told : (result : Result Marked Unmarked) → answer_meaning (without_record result) ≡ answer_of (mark_meaning result)
  told (Ok m) = refl
  told (Err u) = refl

  passed_on : (g : GapRecord) (r : Gap) (a : Result ℕ Refusal) (h : GapRecord) → ByValue limit g r a h → InPlace limit g r a h
  passed_on g r a h v =
      (ap answer_meaning v.answered ∙ told v.result ∙ ap answer_of v.promised, v.left ∙ ap (λ (m : MarkOutcome). m.after) v.promised)

  both-passed-on : {g h : GapRecord} {r q : Gap} {a : Result ℕ Refusal} → MarkedInTurn (ByValue limit) g r q a h → MarkedInTurn (InPlace limit) g r q a h
  both-passed-on {g} {h} {r} {q} {a} t = record {
    answer_between = t.answer_between;
    between = t.between;
    one = passed_on g r t.answer_between t.between t.one;
    one_accepted = t.one_accepted;
    other = passed_on t.between q a h t.other;
    other_accepted = t.other_accepted;
  }

  pub by_value : EitherOrder (ByValue limit)
  by_value g r q a b h k s t = in_place g r q a b h k (both-passed-on s) (both-passed-on t)
