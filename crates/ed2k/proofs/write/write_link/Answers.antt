-- The packet that the given numbers are taken as, and whether these are its numbers: either return is then by a law of Writes.
use mathlib.Core.Path.{◌≡◌}
use Rattle.fields.specs.Fields.{spec_packet_numbers}
use Rattle.fields.specs.Given.{spec_packet_given}
use Rattle.ed2k.proofs.Writes.{Tells, message-given, none-given}
use Rattle.ed2k.proofs.write.write_link.Goals as goal
use Rattle.ed2k.proofs.write.write_link.Goals.{After-packet_given-packet, After-same_fields}

found : (c : After-packet_given-packet) → c.packet_given-packet.result ≡ spec_packet_given c.args.given.now
found c = c.packet_given-packet.ensures

tells : (c : After-same_fields) → let given = c.args.given.now in
    Tells c.same_fields.result (spec_packet_numbers (spec_packet_given given)) given
tells c =
    let found : (c.packet_given-packet.result ≡ spec_packet_given c.args.given.now) = c.packet_given-packet.ensures in
    rw (c.packet_numbers-numbers.ensures, found) at c.same_fields.ensures

pub returns-then-not-same_fields : goal.returns-then-not-same_fields
returns-then-not-same_fields c = rw (c.report.ensures _) (none-given (tells (goal.at.returns-then-not-same_fields c).After-same_fields) c.if-not-same_fields.true)

pub returns : goal.returns
returns c =
    let found = found (goal.at.returns c).After-packet_given-packet in
    rw (c.report-2.ensures _) (message-given (tells (goal.at.returns c).After-same_fields) c.if-not-same_fields.false (rw found at c.write_packet.ensures.writes, rw found at c.write_packet.ensures.round))
