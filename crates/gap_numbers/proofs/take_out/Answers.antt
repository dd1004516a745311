-- More than 64 gaps are refused with nothing written; else the gaps are replaced (`too_many`, `accepts` of Marks).
use mathlib.Core.Path.{◌≡◌, refl, ◌∙◌}
use lib.ListN.{length}
use Rattle.format.specs.Gaps.{subtract}
use Rattle.gap_numbers.specs.NumberSteps.{gaps_in}
use Rattle.gap_numbers.proofs.Replaced.{count_left}
use Rattle.gap_numbers.proofs.Marks.{holds, too_many, accepts}
use Rattle.gap_numbers.proofs.take_out.Goals as goal
use Rattle.gap_numbers.proofs.take_out.Goals.{After-count_left-count}

counted : (c : After-count_left-count) → let a = c.args in c.count_left-count.result ≡ length (subtract (gaps_in a.numbers.now) a.start a.end)
counted c = let h = c.requires in c.count_left-count.ensures ∙ count_left (holds _ _ _ h.0 h.1) c.touch-touched.ensures

pub returns-then-count-gt-GAP_LIMIT : goal.returns-then-count-gt-GAP_LIMIT
returns-then-count-gt-GAP_LIMIT c =
    let h = c.requires in
    rw (too_many c.args.numbers.now c.args.start c.args.end h.0 h.1 (rw (counted (goal.at.returns-then-count-gt-GAP_LIMIT c).After-count_left-count) at c.if-count-gt-GAP_LIMIT.true)) (record { told = refl; numbers = refl })

pub replace-requires : goal.replace-requires
replace-requires c = record { holds = holds _ _ _ c.requires.0 c.requires.1; touches = c.touch-touched.ensures; counted = counted (goal.at.replace-requires c).After-count_left-count; few = c.if-count-gt-GAP_LIMIT.false }

pub returns : goal.returns
returns c =
    let h = c.requires in
    accepts c.args.numbers.now c.args.start c.args.end h.0 h.1 (rw (counted (goal.at.returns c).After-count_left-count) at c.if-count-gt-GAP_LIMIT.false) _ c.touch-touched.ensures.weighed _ c.replace.ensures
