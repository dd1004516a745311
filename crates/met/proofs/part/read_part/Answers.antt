-- Each answer is a law of Replies, by what the reader of the file found.
use Rattle.format.specs.Messages.{part_met}
use Rattle.wire.proofs.Replies.{over-ceiling, faulty, whole, bytes_left}
use Rattle.wire.proofs.Steps.{propagated}
use Rattle.met.proofs.part.read_part.Goals as goal

pub returns-then-s-gt-MET_CEILING-clause-meaning : goal.returns-then-s-gt-MET_CEILING-clause-meaning
returns-then-s-gt-MET_CEILING-clause-meaning c = (over-ceiling part_met _ c.type_inv.s c.if-s-gt-MET_CEILING.true).0

pub returns-in_err-file-clause-meaning : goal.returns-in_err-file-clause-meaning
returns-in_err-file-clause-meaning c = rw (propagated _ c.from_residual.ensures.1) ((faulty part_met _ c.type_inv.s c.if-s-gt-MET_CEILING.false c.in_err-file.ensures.meaning).0)

pub returns-in_err-file-clause-exact : goal.returns-in_err-file-clause-exact
returns-in_err-file-clause-exact c = rw (propagated _ c.from_residual.ensures.1) ((faulty part_met _ c.type_inv.s c.if-s-gt-MET_CEILING.false c.in_err-file.ensures.meaning).1.1)

pub returns-then-end-s-clause-meaning : goal.returns-then-end-s-clause-meaning
returns-then-end-s-clause-meaning c = (whole part_met _ c.type_inv.s c.if-s-gt-MET_CEILING.false c.in_ok-file.ensures.meaning c.if-end-s.true c.in_ok-file.ensures.placed).0

pub returns-then-end-s-clause-exact : goal.returns-then-end-s-clause-exact
returns-then-end-s-clause-exact c = (whole part_met _ c.type_inv.s c.if-s-gt-MET_CEILING.false c.in_ok-file.ensures.meaning c.if-end-s.true c.in_ok-file.ensures.placed).1.1

pub returns-clause-meaning : goal.returns-clause-meaning
returns-clause-meaning c = (bytes_left part_met _ c.type_inv.s c.if-s-gt-MET_CEILING.false c.in_ok-file.ensures.meaning c.if-end-s.false).0

pub returns-clause-exact : goal.returns-clause-exact
returns-clause-exact c = (bytes_left part_met _ c.type_inv.s c.if-s-gt-MET_CEILING.false c.in_ok-file.ensures.meaning c.if-end-s.false).1.1
