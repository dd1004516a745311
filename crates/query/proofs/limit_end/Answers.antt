-- A number and a bound lie there, and the limit passes as its name does.
use native.Mathlib.Omega.{arith}
use Rattle.query.proofs.Skips.{limit-passes}
use Rattle.query.proofs.limit_end.Goals as goal

pub returns : goal.returns
returns c =
    limit-passes c.args.s.now c.args.at (omega (arith, c.requires, c.if-s-at-lt5.false)) c.if-bound-eq0.false
    (omega (arith, c.if-bound-gt2.false)) c.name_end.ensures
