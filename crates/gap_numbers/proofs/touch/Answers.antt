-- Up to `next` the gaps that the range touches are joined into one, and their bytes in it counted (`Touching` of Loops).
use native.Mathlib.Omega.{arith}
use mathlib.Core.Path.{◌≡◌, refl}
use Rattle.gap_numbers.proofs.Loops.{touching-none, part-within, part-missing, touching-next, touches}
use Rattle.gap_numbers.proofs.touch.Goals as goal

pub loop-next-init : goal.loop-next-init
loop-next-init c =
    let h = c.requires in
    touching-none h.0 h.1 c.count_before-first.ensures.0 c.count_before-first.ensures.1 h.2

pub returns-then-end-begins : goal.returns-then-end-begins
returns-then-end-begins c =
    let h = c.requires in
    touches h.0 h.1 c.loop-next.invariant (λ t. c.if-end-begins.true)

pub overflow_sub-left : goal.overflow_sub-left
overflow_sub-left c =
    let h = c.requires in
    let within = part-within h.0 h.1 c.loop-next.invariant c.loop-next-test.true c.if-end-begins.false in
    omega (arith, within)

pub overflow_sub-left-in-loop-next : goal.overflow_sub-left-in-loop-next
overflow_sub-left-in-loop-next c =
    let h = c.requires in
    let missing = part-missing h.0 h.1 c.loop-next.invariant c.loop-next-test.true c.if-end-begins.false in
    omega (arith, missing)

pub loop-next-preserved : goal.loop-next-preserved
loop-next-preserved c =
    let h = c.requires in
    rw c.min-low.ensures
    (touching-next h.0 h.1 c.loop-next.invariant c.loop-next-test.true c.if-end-begins.false (rw (c.max.ensures, c.min.ensures) refl))

pub returns : goal.returns
returns c =
    let h = c.requires in
    let at-end : c.args.gaps ≡ c.loop-next.next = omega (arith, c.loop-next.invariant.passed, h.0.counted) in
    rw at-end (touches h.0 h.1 c.loop-next.invariant (λ t. absurd (omega arith)))
