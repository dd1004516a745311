-- Two tags for each gap fill the range, so that none stays; else its tags are walked.
use Rattle.put_gaps.proofs.Range.{none-stay}
use mathlib.Core.Path.{◌≡◌, sym}
use lib.ListN.{length}
use native.Mathlib.Omega.{arith}
use Rattle.format.specs.PutGaps.{plain_tags}
use Rattle.tags.specs.TagAnswers.{tags_in}
use Rattle.put_gaps.proofs.measure_within.Goals as goal

pub returns-then-range-gaps-clause-bytes : goal.returns-then-range-gaps-clause-bytes
returns-then-range-gaps-clause-bytes c =
    let none : length (plain_tags (tags_in c.args.s.now c.args.range)) ≡ 0 = omega (arith, c.requires.2, c.if-range-gaps.true) in
    sym (none-stay (tags_in c.args.s.now c.args.range) none)
