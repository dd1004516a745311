-- A refusal of the evaluation is one of the query.
use Rattle.wire.proofs.Steps.{propagated}
use Rattle.truth.proofs.Answers.{evaluation_refused}
use Rattle.truth.proofs.truth_on.Goals as goal

pub returns-in_err-holds : goal.returns-in_err-holds
returns-in_err-holds c =
    rw (propagated _ c.from_residual.ensures.1) (evaluation_refused _ _ c.if-query-gt-PACKET_CEILING.false c.in_err-holds.ensures)
