-- The tag list that the given numbers are taken as, and whether these are its numbers: either return is then by a law of Writes.
use mathlib.Core.Path.{◌≡◌}
use Rattle.fields.specs.Fields.{items_numbers}
use Rattle.fields.specs.Given.{spec_items_at}
use Rattle.ed2k.proofs.Writes.{Tells, message-given, none-given}
use Rattle.ed2k.proofs.write.write_lone_tags.Goals as goal
use Rattle.ed2k.proofs.write.write_lone_tags.Goals.{After-list_given-list, After-same_fields}

found : (c : After-list_given-list) → c.list_given-list.result ≡ spec_items_at c.args.given.now 0
found c = c.list_given-list.ensures

tells : (c : After-same_fields) → let given = c.args.given.now in
    Tells c.same_fields.result (items_numbers (spec_items_at given 0)) given
tells c =
    let found : (c.list_given-list.result ≡ spec_items_at c.args.given.now 0) = c.list_given-list.ensures in
    rw (c.list_fields-numbers.ensures, found) at c.same_fields.ensures

pub returns-then-not-same_fields : goal.returns-then-not-same_fields
returns-then-not-same_fields c = rw (c.report.ensures _) (none-given (tells (goal.at.returns-then-not-same_fields c).After-same_fields) c.if-not-same_fields.true)

pub returns : goal.returns
returns c =
    let found = found (goal.at.returns c).After-list_given-list in
    rw (c.report-2.ensures _) (message-given (tells (goal.at.returns c).After-same_fields) c.if-not-same_fields.false (rw found at c.write_tag_list.ensures.writes, rw found at c.write_tag_list.ensures.round))
