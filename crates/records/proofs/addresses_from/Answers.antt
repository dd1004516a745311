-- All have 6 bytes, so that they are there at once (`even-list`), or are read one by one for the fault.
use native.Mathlib.Omega.{arith}
use Rattle.format.specs.Order.{decode_address}
use Rattle.wire.proofs.Loops.{even-list}
use Rattle.records.proofs.Even.{address-item}
use Rattle.records.proofs.addresses_from.Goals as goal

pub returns-clause-meaning : goal.returns-clause-meaning
returns-clause-meaning c =
    let start = c.args in
    (even-list decode_address 6 address-item start.s.now start.count start.first.at (omega (arith, c.if-s-size.false, c.if-s-size-2.false))).0

pub returns-clause-placed : goal.returns-clause-placed
returns-clause-placed c =
    let start = c.args in
    (even-list decode_address 6 address-item start.s.now start.count start.first.at (omega (arith, c.if-s-size.false, c.if-s-size-2.false))).1
