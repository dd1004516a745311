-- The tags before the first gap tag, and those from it on: the law of Ranges.
use Rattle.part_tags.proofs.Ranges.{survey-found}
use Rattle.part_tags.proofs.survey.survey.Goals as goal

pub returns : goal.returns
returns c =
    let a = c.args in
    survey-found a.s.now a.at a.count c.in_ok-leading.leading c.in_ok-leading.ensures c.gap_range.result c.gap_range.ensures
