-- Each answer follows by a law of RecordEntries from what check_body found.
use Rattle.write_bodies.proofs.RecordEntries.{fine, passed-body, roomless-body, written-body}
use Rattle.write_bodies.proofs.write_bare.Goals as goal

pub returns-in_err-found : goal.returns-in_err-found
returns-in_err-found c = passed-body _ _ c.args.out.now c.from_residual.ensures.1 c.in_err-found.ensures

pub returns-then-out-found : goal.returns-then-out-found
returns-then-out-found c = roomless-body (fine c.in_ok-found.ensures) c.args.out.now c.if-out-found.true

pub returns : goal.returns
returns c = written-body (fine c.in_ok-found.ensures) c.args.out.now c.if-out-found.false _ _ c.put_body.ensures.written c.put_body.ensures.output
