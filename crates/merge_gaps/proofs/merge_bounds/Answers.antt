-- The bounds kept so far enclose what the merge decides of the passed ones (`Walked` of Merged).
use Prim.Native.Nat.{◌+◌, ◌<◌}
use native.Mathlib.Omega.{arith}
use mathlib.Core.Path.{ap, ◌∙◌}
use mathlib.Core.Bool.{not}
use lib.Dec.{eqb}
use Rattle.format.specs.Tables.{pick}
use Rattle.merge_gaps.specs.Bounds.{bounds_in}
use Rattle.merge_gaps.proofs.Rising.{changed, unchanged}
use Rattle.merge_gaps.proofs.Merged.{Turn, merged-same, walked_same, walked_more}
use Rattle.merge_gaps.proofs.Numbers.{records-none, records-count, records-put}
use Rattle.merge_gaps.proofs.merge_bounds.Goals as goal
use Rattle.merge_gaps.proofs.merge_bounds.Goals.{After-in_gap-in-loop-opened_passed-3}

-- there is room for one more bound
kept-few : (c : After-in_gap-in-loop-opened_passed-3) → c.loop-opened_passed.kept < 384
kept-few c =
    let s = c.requires.0 in
    omega (arith, c.loop-opened_passed.invariant.few, c.loop-opened_passed-test.true, s.holds_opened.few, s.holds_first.few, s.holds_second.few)

turned : (c : After-in_gap-in-loop-opened_passed-3) → let a = c.args in
    Turn (bounds_in a.opened.now) (bounds_in a.first.now) (bounds_in a.second.now) c.loop-opened_passed.opened_passed c.loop-opened_passed.first_passed c.loop-opened_passed.second_passed
    c.min-at.result c.pass-opened_passed.result c.pass-first_passed.result c.pass-second_passed.result c.misses-missing.result
turned c =
    let at = c.min-at.result in
    let o = c.next_bound-opened_next.ensures in
    let a = c.next_bound-first_next.ensures in
    let b = c.next_bound-second_next.ensures in
    record {
      least = omega (arith, o, a, b, c.min-at.ensures, c.min.ensures);
      passes-o = c.pass-opened_passed.ensures ∙ ap (λ n. pick (eqb n at) (c.loop-opened_passed.opened_passed + 1) c.loop-opened_passed.opened_passed) o;
      passes-a = c.pass-first_passed.ensures ∙ ap (λ n. pick (eqb n at) (c.loop-opened_passed.first_passed + 1) c.loop-opened_passed.first_passed) a;
      passes-b = c.pass-second_passed.ensures ∙ ap (λ n. pick (eqb n at) (c.loop-opened_passed.second_passed + 1) c.loop-opened_passed.second_passed) b;
      decides = c.misses-missing.ensures ∙ merged-same c.in_gap.ensures c.in_gap-in-loop-opened_passed.ensures c.in_gap-in-loop-opened_passed-2.ensures;
    }

pub loop-opened_passed-init : goal.loop-opened_passed-init
loop-opened_passed-init c = records-none c.requires.0 c.args.out.now

pub loop-opened_passed-preserved-then-missing-in_gap : goal.loop-opened_passed-preserved-then-missing-in_gap
loop-opened_passed-preserved-then-missing-in_gap c =
    let pre = c.requires in
    walked_more c.loop-opened_passed.invariant (turned (goal.at.loop-opened_passed-preserved-then-missing-in_gap c).After-in_gap-in-loop-opened_passed-3) pre.0.below c.loop-opened_passed-test.true (omega (arith, kept-few (goal.at.loop-opened_passed-preserved-then-missing-in_gap c).After-in_gap-in-loop-opened_passed-3, pre.1))
    (changed _ _ c.if-missing-in_gap.true ∙ ap not c.in_gap-in-loop-opened_passed-3.ensures)

pub loop-opened_passed-preserved : goal.loop-opened_passed-preserved
loop-opened_passed-preserved c =
    walked_same c.loop-opened_passed.invariant (turned (goal.at.loop-opened_passed-preserved c).After-in_gap-in-loop-opened_passed-3) c.requires.0.below c.loop-opened_passed-test.true
    (unchanged _ _ c.if-missing-in_gap.false ∙ c.in_gap-in-loop-opened_passed-3.ensures)

pub returns-clause-counted : goal.returns-clause-counted
returns-clause-counted c =
    let s = c.requires.0 in
    records-count s c.loop-opened_passed.invariant c.loop-opened_passed-test.false

pub returns-clause-output : goal.returns-clause-output
returns-clause-output c =
    let s = c.requires.0 in
    records-put s c.loop-opened_passed.invariant c.loop-opened_passed-test.false
