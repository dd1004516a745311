-- The gap before the range, then the one after it (`after` of output, `gap-numbers-append` of Numbers).
use mathlib.Core.Path.{sym, ap, ◌∙◌}
use Rattle.format.specs.Writing.{overwritten}
use Rattle.format.specs.Gaps.{between}
use Rattle.output.proofs.Laws.{after}
use Rattle.gap_numbers.specs.NumberSteps.{gap_number_list}
use Rattle.gap_numbers.proofs.Numbers.{length-gap-numbers, gap-numbers-append}
use Rattle.gap_numbers.proofs.put_pieces.Goals as goal

pub returns : goal.returns
returns c =
    let a = c.args in
    let q = c.put_piece-wrote.ensures in
    let first = between a.low a.start in
    let second = between a.end a.high in
    after (gap_number_list first) (gap_number_list second) a.out.now _ _ _ (length-gap-numbers first ∙ sym q.0) q.1 c.put_piece.ensures.1
    ∙ ap (λ r. overwritten r a.out.now) (sym (gap-numbers-append first second))
