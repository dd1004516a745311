-- The loop: the sum so far and the lengths of the gaps from there on are the whole.
use Prim.Native.Nat.{◌+◌}
use native.Mathlib.Omega.{arith}
use mathlib.Core.Path.{◌≡◌}
use lib.ListN.{take}
use Rattle.format.specs.Gaps.{total}
use Rattle.format.proofs.Gaps.{total-fits}
use Rattle.gaps.specs.GapRecords.{gaps_of}
use Rattle.gaps.proofs.GapRecords.{next-Ordered, next-total, no-place-left}
use Rattle.gaps.proofs.sum_lengths.Goals as goal

pub overflow_sub-sum : goal.overflow_sub-sum
overflow_sub-sum c = omega (arith, next-Ordered _ c.loop-gap.gap-index (omega arith) _ c.loop-gap.invariant.0)

pub overflow_add-sum : goal.overflow_add-sum
overflow_add-sum c =
    let g = c.args.given in
    omega (arith, next-total (take g.count g.gaps) c.loop-gap.gap-index (omega arith), total-fits g.size 0 (gaps_of g) c.requires.1, c.well_formed)

pub loop-gap-preserved : goal.loop-gap-preserved
loop-gap-preserved c =
    let g = c.args.given in
    let o = next-Ordered _ c.loop-gap.gap-index (omega arith) _ c.loop-gap.invariant.0 in
    (o.2, omega (arith, next-total (take g.count g.gaps) c.loop-gap.gap-index (omega arith)))

pub returns : goal.returns
unfolding total
returns c =
    let g = c.args.given in
    let z = no-place-left (take g.count g.gaps) c.loop-gap.gap-index (omega arith) in
    let e : c.loop-gap.sum + 0 ≡ total (gaps_of g) = rw z at c.loop-gap.invariant.1 in
    omega arith
