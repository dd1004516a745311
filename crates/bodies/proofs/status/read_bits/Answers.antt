-- Each answer is a law of StatusBits, once the bytes of the bits are there: `run-read`.
use mathlib.Core.Path.{◌≡◌}
use native.Mathlib.Omega.{arith}
use Rattle.format.specs.Bits.{spec_packed_bytes}
use Rattle.format.specs.Decoding.{decode_run, got}
use Rattle.wire.specs.WireAnswers.{place_bytes}
use Rattle.bodies.proofs.StatusBits.{bits_inside, missing-bytes, bytes-there, all-used, unused-clear, unused-set}
use Rattle.wire.proofs.Steps.{propagated}
use Rattle.bodies.proofs.status.read_bits.Goals as goal
use Rattle.bodies.proofs.status.read_bits.Goals.{In_ok-next}

-- The bytes of the bits, once they are there.
run-read : (c : In_ok-next) → let start = c.args in
    got (place_bytes start.s.now c.in_ok-next.field-0-0) c.in_ok-next.next.at ≡ decode_run (spec_packed_bytes start.parts) start.s.now start.c.at
run-read c = rw c.packed_bytes-size.ensures at c.in_ok-next.ensures.result_value

pub returns-in_err-next-clause-result_value : goal.returns-in_err-next-clause-result_value
returns-in_err-next-clause-result_value c =
    rw (propagated _ c.from_residual.ensures.1) (missing-bytes _ _ _ (rw c.packed_bytes-size.ensures at c.in_err-next.ensures.result_value))

pub returns-then-used-eq0-clause-result_value : goal.returns-then-used-eq0-clause-result_value
returns-then-used-eq0-clause-result_value c =
    all-used _ _ _ (run-read (goal.at.returns-then-used-eq0-clause-result_value c).In_ok-next) c.if-used-eq0.true

pub returns-then-used-eq0-clause-inside : goal.returns-then-used-eq0-clause-inside
returns-then-used-eq0-clause-inside c =
    let read = run-read (goal.at.returns-then-used-eq0-clause-inside c).In_ok-next in
    bits_inside _ _ _ read (all-used _ _ _ read c.if-used-eq0.true)

pub overflow_add-last : goal.overflow_add-last
overflow_add-last c = omega (arith, bytes-there _ _ _ (run-read (goal.at.overflow_add-last c).In_ok-next))

pub bounds-s-last : goal.bounds-s-last
bounds-s-last c = omega (arith, bytes-there _ _ _ (run-read (goal.at.bounds-s-last c).In_ok-next))

pub returns-then-byte-power-clause-result_value : goal.returns-then-byte-power-clause-result_value
returns-then-byte-power-clause-result_value c =
    unused-clear _ _ _ (run-read (goal.at.returns-then-byte-power-clause-result_value c).In_ok-next) c.if-used-eq0.false (rw c.power.ensures at c.if-byte-power.true)

pub returns-then-byte-power-clause-inside : goal.returns-then-byte-power-clause-inside
returns-then-byte-power-clause-inside c =
    let read = run-read (goal.at.returns-then-byte-power-clause-inside c).In_ok-next in
    bits_inside _ _ _ read (unused-clear _ _ _ read c.if-used-eq0.false (rw c.power.ensures at c.if-byte-power.true))

pub returns-clause-result_value : goal.returns-clause-result_value
returns-clause-result_value c =
    let read = run-read (goal.at.returns-clause-result_value c).In_ok-next in
    rw c.packed_bytes-size.ensures (unused-set _ _ _ read c.if-used-eq0.false (rw c.power.ensures at c.if-byte-power.false))
