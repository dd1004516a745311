-- The server.met that the given numbers are taken as, and whether these are its numbers: either return is then by a law of Writes.
use mathlib.Core.Path.{◌≡◌}
use Rattle.fields.specs.Fields.{server_numbers}
use Rattle.fields.specs.Given.{spec_server_given}
use Rattle.ed2k.proofs.Writes.{Tells, message-given, none-given}
use Rattle.ed2k.proofs.write.write_server.Goals as goal
use Rattle.ed2k.proofs.write.write_server.Goals.{After-same_fields, After-server_given-server}

found : (c : After-server_given-server) → c.server_given-server.result ≡ spec_server_given c.args.given.now
found c = c.server_given-server.ensures

tells : (c : After-same_fields) → let given = c.args.given.now in
    Tells c.same_fields.result (server_numbers (spec_server_given given)) given
tells c =
    let found : (c.server_given-server.result ≡ spec_server_given c.args.given.now) = c.server_given-server.ensures in
    rw (c.server_fields-numbers.ensures, found) at c.same_fields.ensures

pub returns-then-not-same_fields : goal.returns-then-not-same_fields
returns-then-not-same_fields c = rw (c.report.ensures _) (none-given (tells (goal.at.returns-then-not-same_fields c).After-same_fields) c.if-not-same_fields.true)

pub returns : goal.returns
returns c =
    let found = found (goal.at.returns c).After-server_given-server in
    rw (c.report-2.ensures _) (message-given (tells (goal.at.returns c).After-same_fields) c.if-not-same_fields.false (rw found at c.write_server_met.ensures.writes, rw found at c.write_server_met.ensures.round))
