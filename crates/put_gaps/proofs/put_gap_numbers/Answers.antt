-- The file was accepted (`accepted`) and the record was found lawful (`lawful`); each answer follows by a law of Puts from these two.
use native.Mathlib.Omega.{arith}
use mathlib.Core.Bool.{true}
use mathlib.Core.Path.{◌≡◌, refl, sym, ap, ◌∙◌}
use Rattle.format.specs.Gaps.{size_limit}
use Rattle.gaps.specs.GapRecords.{lawful_record}
use Rattle.gaps.proofs.GapRecords.{lawful-record-exactly}
use Rattle.gap_numbers.specs.Numbers.{held, record_in}
use Rattle.gap_numbers.proofs.Records.{lawful-numbers}
use Rattle.wire.proofs.Steps.{propagated}
use Rattle.output.proofs.Refusals.{number-of-rule}
use Rattle.put_gaps.specs.PutAnswers.{spec_put_record}
use Rattle.put_gaps.specs.Pieces.{Accepts}
use Rattle.put_gaps.proofs.Puts.{reads, put_refused, put-unlawful, put-other-size, put-fitting}
use Rattle.put_gaps.proofs.put_gap_numbers.Goals as goal
use Rattle.put_gaps.proofs.put_gap_numbers.Goals.{In_ok-part, Else-is_none}

accepted : (c : In_ok-part) → Accepts c.args.file.now c.in_ok-part.part c.in_ok-part.found
accepted c = let r = c.in_ok-part.ensures in reads _ _ _ _ _ refl (r.meaning, (r.placed, (r.sized, r.exact)))

judged : (c : Else-is_none) → lawful_record size_limit (record_in c.args.gaps.now) ≡ true
judged c = sym c.judge_numbers.ensures.told ∙ c.if-is_none.ensures

lawful : (c : Else-is_none) → lawful_record size_limit (held c.args.gaps.now) ≡ true
lawful c = rw (lawful-numbers _ (judged c)).1 at (judged c)

pub returns-in_err-part : goal.returns-in_err-part
returns-in_err-part c =
    rw ((propagated _ c.from_residual.ensures.1), number-of-rule, put_refused _ _ _ _ c.in_err-part.ensures.meaning) refl

pub returns-then-is_none : goal.returns-then-is_none
returns-then-is_none c =
    let a = accepted (goal.at.returns-then-is_none c).In_ok-part in
    sym (put-unlawful _ _ _ _ a.told (sym c.judge_numbers.ensures.told ∙ c.if-is_none.ensures))

pub bounds-gaps-0 : goal.bounds-gaps-0
bounds-gaps-0 c = omega (arith, (lawful-numbers _ (judged (goal.at.bounds-gaps-0 c).Else-is_none)).0)

pub returns-then-gaps-found : goal.returns-then-gaps-found
returns-then-gaps-found c =
    let a = accepted (goal.at.returns-then-gaps-found c).In_ok-part in
    let e = (goal.at.returns-then-gaps-found c).Else-is_none in
    rw ((lawful-numbers _ (judged e)).1, put-other-size _ (held c.args.gaps.now) _ _ a.told (lawful e) _ a.sized c.if-gaps-found.true) refl

pub put_file-requires : goal.put_file-requires
put_file-requires c =
    let e = (goal.at.put_file-requires c).Else-is_none in
    let holds = (lawful-record-exactly size_limit (held c.args.gaps.now)).0 (lawful e) in
    (accepted (goal.at.put_file-requires c).In_ok-part, ((lawful-numbers _ (judged e)).0, holds))

pub returns : goal.returns
returns c =
    let a = accepted (goal.at.returns c).In_ok-part in
    let e = (goal.at.returns c).Else-is_none in
    let fitting = put-fitting _ (held c.args.gaps.now) _ _ a.told (lawful e) _ a.sized c.if-gaps-found.false in
    c.put_file.ensures ∙ sym (ap (λ g. spec_put_record c.args.file.now g c.args.out.now) (lawful-numbers _ (judged e)).1 ∙ fitting)
