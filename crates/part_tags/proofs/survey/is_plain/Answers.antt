-- The first byte of the name tells, by the laws of TagLaws.
use mathlib.Core.Path.{sym, ap}
use Rattle.format.specs.PutGaps.{is_plain}
use Rattle.part_tags.proofs.TagLaws.{bytes_of, plain-test, role-other}
use native.Mathlib.Omega.{arith}
use Rattle.part_tags.proofs.survey.is_plain.Goals as goal

pub overflow_add-first : goal.overflow_add-first
overflow_add-first c = let t = bytes_of c.args.s.now c.args.at c.requires in omega (arith, t.inside, t.some-name)

pub bounds-s-at : goal.bounds-s-at
bounds-s-at c = let t = bytes_of c.args.s.now c.args.at c.requires in omega (arith, t.inside, t.some-name)

pub returns-then-first-lt-START_NAME : goal.returns-then-first-lt-START_NAME
returns-then-first-lt-START_NAME c = sym (ap is_plain (role-other c.args.s.now c.args.at c.requires (λ e. omega (arith, c.if-first-lt-START_NAME.true)) (λ e. omega (arith, c.if-first-lt-START_NAME.true))))

pub returns : goal.returns
returns c = plain-test c.args.s.now c.args.at c.requires c.if-first-lt-START_NAME.false
