-- The part.met that the given numbers are taken as, and whether these are its numbers: either return is then by a law of Writes.
use mathlib.Core.Path.{◌≡◌}
use Rattle.fields.specs.Fields.{part_numbers}
use Rattle.fields.specs.Given.{spec_part_given, spec_size_given}
use Rattle.ed2k.proofs.Writes.{Tells, message-given, none-given}
use Rattle.ed2k.proofs.write.write_part.Goals as goal
use Rattle.ed2k.proofs.write.write_part.Goals.{After-part_given-part, After-same_fields}

found : (c : After-part_given-part) → c.part_given-part.result ≡ spec_part_given c.args.given.now
found c = c.part_given-part.ensures

tells : (c : After-same_fields) → let given = c.args.given.now in
    Tells c.same_fields.result (part_numbers (spec_part_given given) (spec_size_given given)) given
tells c =
    let found : (c.part_given-part.result ≡ spec_part_given c.args.given.now) = c.part_given-part.ensures in
    rw (c.part_fields-numbers.ensures, c.size_given-size.ensures, found) at c.same_fields.ensures

pub returns-then-not-same_fields : goal.returns-then-not-same_fields
returns-then-not-same_fields c = rw (c.report.ensures _) (none-given (tells (goal.at.returns-then-not-same_fields c).After-same_fields) c.if-not-same_fields.true)

pub returns : goal.returns
returns c =
    let found = found (goal.at.returns c).After-part_given-part in
    rw (c.report-2.ensures _) (message-given (tells (goal.at.returns c).After-same_fields) c.if-not-same_fields.false (rw found at c.write_part_met.ensures.writes, rw found at c.write_part_met.ensures.round))
