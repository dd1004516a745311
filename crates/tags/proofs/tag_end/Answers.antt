-- Where all tests pass, the tag ends where they say: `tag-ends` of Skips. Else nothing is told.
use mathlib.Core.Path.{refl}
use Prim.Native.Nat.{◌+◌}
use native.Mathlib.Omega.{arith}
use Rattle.tags.proofs.Skips.{tag-ends}
use Rattle.tags.proofs.tag_end.Goals as goal

pub returns : goal.returns
returns c =
    let at = c.args.at in
    tag-ends c.args.s.now at _ _ refl (omega (arith, c.if-code-eq0.false)) c.if-code-gt-LAST_CODE.false (omega (arith, c.if-s-at-ne0.false))
    c.if-name_len-eq0.false (omega (arith, c.type_inv.s (at + 1)))
    c.own_size.ensures c.text_size.ensures (omega (arith, c.if-s-end.false))
