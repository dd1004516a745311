-- The record that is read from its numbers is the record (`record-back` of gap_numbers' Records).
use Rattle.put_gaps.specs.PutAnswers.{spec_put_record}
use Rattle.gap_numbers.specs.Numbers.{record_in}
use Rattle.gap_numbers.proofs.Records.{record-back}
use lib.ListN.{length}
use native.Mathlib.Omega.{arith}
use mathlib.Core.Path.{◌≡◌, ap, ◌∙◌}
use Rattle.put_gaps.proofs.put_gaps.Goals as goal

pub returns : goal.returns
returns c =
    let g = c.args.g in
    let places : length g.gaps ≡ 64 = omega arith in
    let numbers = ap record_in c.put_record.ensures ∙ record-back g _ places in
    c.put_gap_numbers.ensures ∙ ap (λ r. spec_put_record c.args.file.now r c.args.out.now) numbers
