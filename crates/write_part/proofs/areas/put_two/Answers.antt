-- A block and the last block: `after` of the output's laws.
use mathlib.Core.Path.{ap, sym, ◌∙◌}
use mathlib.Core.List.{◌++◌, append_assoc}
use Rattle.format.specs.Layout.{byte}
use Rattle.format.specs.Writing.{overwritten}
use Rattle.output.proofs.Laws.{after}
use Rattle.write_part.proofs.AreaBytes.{block_size}
use Rattle.write_part.proofs.areas.put_two.Goals as goal

pub returns-clause-output : goal.returns-clause-output
returns-clause-output c =
    let a = c.args in
    let rest = byte 1 ++ (a.second.now ++ byte 0) in
    let all = after (byte 1 ++ a.first.now) rest _ _ _ _ (block_size a.first.now ∙ sym c.put_block-at.ensures.written) c.put_block-at.ensures.output c.put_last-wrote.ensures.output in
    all ∙ ap (λ bytes. overwritten bytes a.out.now) (append_assoc (byte 1) a.first.now rest)
