-- The query that the given numbers are taken as, and whether these are its numbers: either return is then by a law of Writes.
use mathlib.Core.Path.{◌≡◌}
use Rattle.fields.specs.Fields.{query_numbers}
use Rattle.fields.specs.Given.{spec_query_at}
use Rattle.ed2k.proofs.Writes.{Tells, message-given, none-given}
use Rattle.ed2k.proofs.write.write_lone_query.Goals as goal
use Rattle.ed2k.proofs.write.write_lone_query.Goals.{After-query_given-query, After-same_fields}

found : (c : After-query_given-query) → c.query_given-query.result ≡ spec_query_at c.args.given.now 0
found c = c.query_given-query.ensures

tells : (c : After-same_fields) → let given = c.args.given.now in
    Tells c.same_fields.result (query_numbers (spec_query_at given 0)) given
tells c =
    let found : (c.query_given-query.result ≡ spec_query_at c.args.given.now 0) = c.query_given-query.ensures in
    rw (c.query_fields-numbers.ensures, found) at c.same_fields.ensures

pub returns-then-not-same_fields : goal.returns-then-not-same_fields
returns-then-not-same_fields c = rw (c.report.ensures _) (none-given (tells (goal.at.returns-then-not-same_fields c).After-same_fields) c.if-not-same_fields.true)

pub returns : goal.returns
returns c =
    let found = found (goal.at.returns c).After-query_given-query in
    rw (c.report-2.ensures _) (message-given (tells (goal.at.returns c).After-same_fields) c.if-not-same_fields.false (rw found at c.write_query.ensures.writes, rw found at c.write_query.ensures.round))
