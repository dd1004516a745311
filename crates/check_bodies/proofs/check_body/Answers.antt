-- The three extents of a body are the three findings: laws of Extents and Rules.
use Rattle.wire.proofs.Replies.{slice-bytes}
use Rattle.check_bodies.proofs.Extents.{absent-checked, long-checked, sized-checked}
use Rattle.check_bodies.proofs.Rules.{rules}
use Rattle.check_bodies.proofs.check_body.Goals as goal

pub returns-in_err-size : goal.returns-in_err-size
returns-in_err-size c = absent-checked _ c.from_residual.ensures.1 c.in_err-size.ensures

pub returns-in_default : goal.returns-in_default
returns-in_default c = long-checked (rw c.in_default.is at c.in_ok-size.ensures)

pub returns : goal.returns
returns c =
    let s = c.args.src.now in
    sized-checked _ (rw c.broken_rule-rule.ensures.rule (rules s (slice-bytes s c.type_inv.src) c.args.b c.broken_rule-rule.ensures.bounded)) (rw c.in-Some.is at c.in_ok-size.ensures)
