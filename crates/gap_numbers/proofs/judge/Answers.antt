-- Up to gap i the record is lawful, and its missing bytes are counted (`Judging` of Loops).
use native.Mathlib.Omega.{arith}
use mathlib.Core.Path.{sym}
use Rattle.gap_numbers.proofs.Loops.{judging-none, judged-all, judged-out, gap-lies, judging-next}
use Rattle.gap_numbers.proofs.judge.Goals as goal

pub loop-i-init : goal.loop-i-init
loop-i-init c = judging-none c.args.numbers.now c.if-gaps-gt-GAP_LIMIT.false c.if-size-gt-SIZE_LIMIT.false

pub returns-then-not-may_follow : goal.returns-then-not-may_follow
returns-then-not-may_follow c = judged-out c.loop-i.invariant (omega arith) (sym c.if-not-may_follow.ensures)

pub overflow_add-low : goal.overflow_add-low
overflow_add-low c = omega (arith, gap-lies c.loop-i.invariant (omega arith) (sym c.if-not-may_follow.ensures))

pub overflow_sub-missing : goal.overflow_sub-missing
overflow_sub-missing c = omega (arith, gap-lies c.loop-i.invariant (omega arith) (sym c.if-not-may_follow.ensures))

pub overflow_add-missing : goal.overflow_add-missing
overflow_add-missing c =
    let v = c.loop-i.invariant in
    omega (arith, gap-lies v (omega arith) (sym c.if-not-may_follow.ensures), v.below, v.inside)

pub loop-i-preserved : goal.loop-i-preserved
loop-i-preserved c = judging-next c.loop-i.invariant (omega arith) (sym c.if-not-may_follow.ensures)

pub returns : goal.returns
returns c = judged-all c.loop-i.invariant (omega arith)
