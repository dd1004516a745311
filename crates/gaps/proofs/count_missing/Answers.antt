-- A lawful record has its gaps in order, and its missing bytes are those of its gaps.
use Rattle.format.specs.Gaps.{size_limit}
use mathlib.Core.Path.{sym, ◌∙◌}
use Rattle.gaps.proofs.GapRecords.{lawful-record-exactly, total-missing}
use Rattle.gaps.proofs.count_missing.Goals as goal

pub sum_lengths-requires : goal.sum_lengths-requires
sum_lengths-requires c =
    let k = (lawful-record-exactly size_limit c.args.given).0 (sym c.if-not-is_lawful.ensures) in
    (k.0, k.1.ordered)

pub returns : goal.returns
returns c = c.sum_lengths.ensures ∙ total-missing size_limit c.args.given (sym c.if-not-is_lawful.ensures)
