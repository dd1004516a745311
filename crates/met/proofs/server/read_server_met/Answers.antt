-- Each answer is a law of Replies, by what the reader of the file found. The tail leaves no bytes.
use mathlib.Core.Path.{refl}
use Rattle.format.specs.Messages.{server_met}
use Rattle.wire.proofs.Replies.{over-ceiling, faulty, whole}
use Rattle.wire.proofs.Steps.{propagated}
use Rattle.met.proofs.server.read_server_met.Goals as goal

pub returns-then-s-gt-MET_CEILING-clause-meaning : goal.returns-then-s-gt-MET_CEILING-clause-meaning
returns-then-s-gt-MET_CEILING-clause-meaning c = (over-ceiling server_met _ c.type_inv.s c.if-s-gt-MET_CEILING.true).0

pub returns-in_err-read_server_met_at-clause-meaning : goal.returns-in_err-read_server_met_at-clause-meaning
returns-in_err-read_server_met_at-clause-meaning c = rw (propagated _ c.from_residual.ensures.1) ((faulty server_met _ c.type_inv.s c.if-s-gt-MET_CEILING.false c.in_err-read_server_met_at.ensures.meaning).0)

pub returns-in_err-read_server_met_at-clause-exact : goal.returns-in_err-read_server_met_at-clause-exact
returns-in_err-read_server_met_at-clause-exact c = rw (propagated _ c.from_residual.ensures.1) ((faulty server_met _ c.type_inv.s c.if-s-gt-MET_CEILING.false c.in_err-read_server_met_at.ensures.meaning).1.1)

pub returns-clause-meaning : goal.returns-clause-meaning
returns-clause-meaning c = (whole server_met _ c.type_inv.s c.if-s-gt-MET_CEILING.false c.in_ok-read_server_met_at.ensures.meaning refl c.in_ok-read_server_met_at.ensures.placed).0

pub returns-clause-exact : goal.returns-clause-exact
returns-clause-exact c = (whole server_met _ c.type_inv.s c.if-s-gt-MET_CEILING.false c.in_ok-read_server_met_at.ensures.meaning refl c.in_ok-read_server_met_at.ensures.placed).1.1
