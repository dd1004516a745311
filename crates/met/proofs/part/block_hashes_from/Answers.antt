-- All have 8 bytes, so that they are there at once (`even-list`), or are read one by one for the fault.
use native.Mathlib.Omega.{arith}
use Rattle.format.specs.Decoding.{decode_run}
use Rattle.wire.proofs.Loops.{even-list, run-item}
use Rattle.met.proofs.part.block_hashes_from.Goals as goal

pub returns-clause-meaning : goal.returns-clause-meaning
returns-clause-meaning c =
    let start = c.args in
    (even-list (decode_run 8) 8 (run-item 8) start.s.now start.n start.first.at (omega (arith, c.if-s-size.false, c.if-s-size-2.false))).0

pub returns-clause-placed : goal.returns-clause-placed
returns-clause-placed c =
    let start = c.args in
    (even-list (decode_run 8) 8 (run-item 8) start.s.now start.n start.first.at (omega (arith, c.if-s-size.false, c.if-s-size-2.false))).1
