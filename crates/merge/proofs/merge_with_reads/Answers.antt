-- Each file's own number, or what was read of it; then what `merge_read` answers for three that are accepted (laws of Answers).
use Rattle.wire.proofs.Steps.{propagated}
use Rattle.output.proofs.Refusals.{number-of-rule}
use Rattle.merge.proofs.Answers.{all_read, first-refused, found_of, opened-refused, read_of, refused-of, second-refused}
use Rattle.merge.proofs.merge_with_reads.Goals as goal

pub returns-in_err-opened_part : goal.returns-in_err-opened_part
returns-in_err-opened_part c =
    let told = c.in_err-opened_part.was in
    let pre = c.requires in
    rw ((propagated _ c.from_residual.ensures.1), number-of-rule) (opened-refused _ _ _ _ _ (refused-of _ _ _ _ told pre.0))

pub returns-in_err-first_part : goal.returns-in_err-first_part
returns-in_err-first_part c =
    let told = c.in_err-first_part.was in
    let opened = read_of _ _ _ _ _ c.in_ok-opened_part.was c.requires.0 in
    rw ((propagated _ c.from_residual-in_err-first_part.ensures.1), number-of-rule) (first-refused _ _ _ _ _ opened _ (refused-of _ _ _ _ told c.requires.1))

pub returns-in_err-second_part : goal.returns-in_err-second_part
returns-in_err-second_part c =
    let told = c.in_err-second_part.was in
    let opened = read_of _ _ _ _ _ c.in_ok-opened_part.was c.requires.0 in
    let first = read_of _ _ _ _ _ c.in_ok-first_part.was c.requires.1 in
    rw ((propagated _ c.from_residual-in_err-second_part.ensures.1), number-of-rule) (second-refused _ _ _ _ _ opened _ first _ (refused-of _ _ _ _ told c.requires.2))

pub merge_read-requires : goal.merge_read-requires
merge_read-requires c = (
  found_of _ _ c.in_ok-opened_part.was c.requires.0,
  found_of _ _ c.in_ok-first_part.was c.requires.1,
  found_of _ _ c.in_ok-second_part.was c.requires.2,
)

pub returns : goal.returns
returns c =
    let opened = read_of _ _ _ _ _ c.in_ok-opened_part.was c.requires.0 in
    let first = read_of _ _ _ _ _ c.in_ok-first_part.was c.requires.1 in
    let second = read_of _ _ _ _ _ c.in_ok-second_part.was c.requires.2 in
    all_read _ _ _ _ _ opened _ first _ second _ c.merge_read.ensures
