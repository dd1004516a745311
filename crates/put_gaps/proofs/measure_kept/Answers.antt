-- The tags before the range and after it all stay; of those in it, as measured (`spans` of Range).
use Rattle.put_gaps.proofs.Range.{pairs-out, placed-range, spans}
use Rattle.wire.proofs.Replies.{slice-bytes}
use native.Mathlib.Omega.{arith}
use Rattle.put_gaps.proofs.measure_kept.Goals as goal

pub measure_within-plain-requires : goal.measure_within-plain-requires
measure_within-plain-requires c =
    let bytes = slice-bytes _ c.type_inv.s in
    let r = c.requires in
    (placed-range _ bytes _ _ r.0 r.1, r.2.few, pairs-out _ bytes _ _ r.0 r.1 _ r.2)

pub overflow_sub-count : goal.overflow_sub-count
overflow_sub-count c = (spans _ (slice-bytes _ c.type_inv.s) _ _ c.requires.0 c.requires.1).few

pub overflow_add-count : goal.overflow_add-count
overflow_add-count c = let n = spans _ (slice-bytes _ c.type_inv.s) _ _ c.requires.0 c.requires.1 in omega (arith, n.few, n.short, c.measure_within-plain.ensures.count)

pub overflow_sub-bytes : goal.overflow_sub-bytes
overflow_sub-bytes c = (spans _ (slice-bytes _ c.type_inv.s) _ _ c.requires.0 c.requires.1).first

pub overflow_add-bytes : goal.overflow_add-bytes
overflow_add-bytes c = let n = spans _ (slice-bytes _ c.type_inv.s) _ _ c.requires.0 c.requires.1 in omega (arith, n, c.measure_within-plain.ensures.bytes)

pub overflow_sub-bytes-2 : goal.overflow_sub-bytes-2
overflow_sub-bytes-2 c = (spans _ (slice-bytes _ c.type_inv.s) _ _ c.requires.0 c.requires.1).last

pub overflow_add-bytes-2 : goal.overflow_add-bytes-2
overflow_add-bytes-2 c = let n = spans _ (slice-bytes _ c.type_inv.s) _ _ c.requires.0 c.requires.1 in omega (arith, n, c.measure_within-plain.ensures.bytes)

pub returns-clause-count : goal.returns-clause-count
returns-clause-count c = let n = spans _ (slice-bytes _ c.type_inv.s) _ _ c.requires.0 c.requires.1 in omega (arith, n.counted, c.measure_within-plain.ensures.count)

pub returns-clause-bytes : goal.returns-clause-bytes
returns-clause-bytes c = let n = spans _ (slice-bytes _ c.type_inv.s) _ _ c.requires.0 c.requires.1 in omega (arith, n.summed, c.measure_within-plain.ensures.bytes)
