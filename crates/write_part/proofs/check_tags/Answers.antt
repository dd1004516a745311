use native.Mathlib.Omega.{arith}
use Rattle.format.proofs.Items.{codec-tag}
use Rattle.format.proofs.Writing.{tag-needed}
use Rattle.write_part.proofs.Tags.{list_inside}
use Rattle.write_part.proofs.check_tags.Goals as goal

pub overflow_add-end : goal.overflow_add-end
overflow_add-end c =
    let a = c.args in
    omega (arith, list_inside codec-tag tag-needed a.src.now c.type_inv.src a.tags a.tags_len c.requires)
