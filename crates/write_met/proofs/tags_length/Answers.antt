-- The tags end after their offset: `end_after` of Lists.
use Prim.Native.Nat.{ℕ}
use mathlib.Core.Path.{ap, ◌∙◌}
use native.Mathlib.Omega.{arith}
use Rattle.format.specs.Decoding.{got}
use Rattle.format.proofs.Items.{codec-tag}
use Rattle.format.proofs.Writing.{tag-needed}
use Rattle.write_met.proofs.Lists.{end_after}
use Rattle.write_met.proofs.tags_length.Goals as goal

pub overflow_sub-result : goal.overflow_sub-result
overflow_sub-result c =
    let a = c.args in
    end_after codec-tag tag-needed a.s.now c.type_inv.s a.list c.in_ok-next.ensures

pub returns : goal.returns
returns c =
    let a = c.args in
    let behind = end_after codec-tag tag-needed a.s.now c.type_inv.s a.list c.in_ok-next.ensures in
    ap (λ (n : ℕ). got tt n) (omega (arith, behind)) ∙ c.in_ok-next.ensures
