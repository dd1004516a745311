-- The known.met that the given numbers are taken as, and whether these are its numbers: either return is then by a law of Writes.
use mathlib.Core.Path.{◌≡◌}
use Rattle.fields.specs.Fields.{known_numbers}
use Rattle.fields.specs.Given.{spec_known_given}
use Rattle.ed2k.proofs.Writes.{Tells, message-given, none-given}
use Rattle.ed2k.proofs.write.write_known.Goals as goal
use Rattle.ed2k.proofs.write.write_known.Goals.{After-known_given-known, After-same_fields}

found : (c : After-known_given-known) → c.known_given-known.result ≡ spec_known_given c.args.given.now
found c = c.known_given-known.ensures

tells : (c : After-same_fields) → let given = c.args.given.now in
    Tells c.same_fields.result (known_numbers (spec_known_given given)) given
tells c =
    let found : (c.known_given-known.result ≡ spec_known_given c.args.given.now) = c.known_given-known.ensures in
    rw (c.known_fields-numbers.ensures, found) at c.same_fields.ensures

pub returns-then-not-same_fields : goal.returns-then-not-same_fields
returns-then-not-same_fields c = rw (c.report.ensures _) (none-given (tells (goal.at.returns-then-not-same_fields c).After-same_fields) c.if-not-same_fields.true)

pub returns : goal.returns
returns c =
    let found = found (goal.at.returns c).After-known_given-known in
    rw (c.report-2.ensures _) (message-given (tells (goal.at.returns c).After-same_fields) c.if-not-same_fields.false (rw found at c.write_known_met.ensures.writes, rw found at c.write_known_met.ensures.round))
