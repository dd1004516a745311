-- The loop: the digits are used by one of the pairs if they are used by one of the first i.
use Prim.Native.Nat.{◌-◌}
use mathlib.Core.Path.{refl, sym, ◌∙◌}
use Rattle.format.specs.PartTagOrder.{used}
use Rattle.part_tags.proofs.GapTags.{inside-at, pairs-none, used-last}
use native.Mathlib.Omega.{arith}
use Rattle.part_tags.proofs.pairs.is_used.Goals as goal

pub digits_at-requires : goal.digits_at-requires
digits_at-requires c = omega (arith, inside-at c.args.s.now c.args.count (c.loop-i.i - 1) c.args.starts.now c.requires.1 (omega arith))

pub returns-then-same : goal.returns-then-same
returns-then-same c =
    let a = c.args in
    let e = rw c.digits_at.ensures at (sym c.same.ensures ∙ c.if-same.true) in
    rw (c.loop-i.invariant.1, used-last a.s.now c.loop-i.i a.starts.now _ (omega arith), e) refl

pub loop-i-preserved : goal.loop-i-preserved
loop-i-preserved c =
    let a = c.args in
    let e = rw c.digits_at.ensures at (sym c.same.ensures ∙ c.if-same.false) in
    (omega arith, c.loop-i.invariant.1 ∙ rw (used-last a.s.now c.loop-i.i a.starts.now _ (omega arith), e) refl)

pub returns : goal.returns
unfolding used
returns c =
    let a = c.args in
    rw (c.loop-i.invariant.1, pairs-none a.s.now c.loop-i.i a.starts.now (omega arith)) refl
