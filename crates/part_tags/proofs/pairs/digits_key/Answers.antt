-- The loop: the key of all digits is that of those from i on, after the key so far.
use mathlib.Core.Path.{refl, ◌∙◌}
use borrow.Author.Tests.{le-leb, lt-leb}
use Rattle.format.specs.PartTagOrder.{numbered}
use Rattle.part_tags.proofs.GapTags.{decimal-next, decimal-end, key-next, key-end}
use native.Mathlib.Omega.{arith}
use Rattle.part_tags.proofs.pairs.digits_key.Goals as goal

pub returns-then-n-lt1 : goal.returns-then-n-lt1
unfolding numbered
returns-then-n-lt1 c = rw (lt-leb _ _ c.if-n-lt1.true) refl

pub returns-then-n-gt-MOST_DIGITS : goal.returns-then-n-gt-MOST_DIGITS
unfolding numbered
returns-then-n-gt-MOST_DIGITS c = rw (le-leb _ _ c.if-n-lt1.false, lt-leb _ _ c.if-n-gt-MOST_DIGITS.true) refl

pub loop-i-init : goal.loop-i-init
unfolding numbered
loop-i-init c = (omega arith, rw (le-leb _ _ c.if-n-lt1.false, le-leb _ _ c.if-n-gt-MOST_DIGITS.false) refl)

pub returns-then-b-lt48 : goal.returns-then-b-lt48
returns-then-b-lt48 c =
    let d = c.args.digits.now in
    rw (c.loop-i.invariant.1, decimal-next d c.loop-i.i (omega arith), lt-leb _ _ c.if-b-lt48.true) refl

pub returns-then-b-gt57 : goal.returns-then-b-gt57
returns-then-b-gt57 c =
    let d = c.args.digits.now in
    rw (c.loop-i.invariant.1, decimal-next d c.loop-i.i (omega arith), le-leb _ _ c.if-b-lt48.false, lt-leb _ _ c.if-b-gt57.true) refl

pub loop-i-preserved : goal.loop-i-preserved
loop-i-preserved c =
    let d = c.args.digits.now in
    let digit = decimal-next d c.loop-i.i (omega arith) in
    let key = key-next d c.loop-i.i c.loop-i.key (omega arith) in
    (omega arith, c.loop-i.invariant.1 ∙ rw (digit, le-leb _ _ c.if-b-lt48.false, le-leb _ _ c.if-b-gt57.false, key, c.from.ensures) refl)

pub returns : goal.returns
returns c =
    let d = c.args.digits.now in
    rw (c.loop-i.invariant.1, decimal-end d c.loop-i.i (omega arith), key-end d c.loop-i.i c.loop-i.key (omega arith)) refl
