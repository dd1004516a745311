-- The refusals in their order, and the copy, by the laws of Strict.
use Rattle.wire.proofs.Steps.{propagated}
use Rattle.output.proofs.Refusals.{number-of-rule}
use Rattle.save.proofs.Strict.{strict-refused, strict-conflict, strict-over}
use borrow.Author.Tests.{le-leb, lt-leb}
use mathlib.Core.Path.{refl, ap}
use lib.ListN.{length}
use Rattle.save.proofs.save_strict.Goals as goal

pub returns-in_err-read_part_met : goal.returns-in_err-read_part_met
returns-in_err-read_part_met c =
    rw ((propagated _ c.from_residual.ensures.1), number-of-rule, strict-refused _ _ _ _ _ c.in_err-read_part_met.ensures.meaning) refl

pub returns-then-not-same : goal.returns-then-not-same
returns-then-not-same c =
    let a = c.args in
    let differ = rw c.if-not-same.true at c.same.ensures in
    rw (strict-conflict a.stored.now a.opened.now _ _ _ c.in_ok-read_part_met.ensures.meaning differ) refl

pub returns-then-out-length : goal.returns-then-out-length
returns-then-out-length c =
    let a = c.args in
    let equal = rw c.if-not-same.false at c.same.ensures in
    rw (strict-over a.stored.now a.opened.now _ _ _ c.in_ok-read_part_met.ensures.meaning equal, lt-leb _ _ c.if-out-length.true) refl

pub returns : goal.returns
returns c =
    let a = c.args in
    let equal = rw c.if-not-same.false at c.same.ensures in
    let room = le-leb _ _ c.if-out-length.false in
    rw (strict-over a.stored.now a.opened.now _ _ _ c.in_ok-read_part_met.ensures.meaning equal, room)
    (ap (λ output. record { number = 0; length = length a.new.now; output = output }) c.copy.ensures)
