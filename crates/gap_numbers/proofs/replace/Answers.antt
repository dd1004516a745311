use native.Mathlib.Omega.{arith}
use lib.ListN.{length-take, length-drop}
use Rattle.gap_numbers.proofs.Replaced.{ends, room, replaced}
use Rattle.gap_numbers.proofs.replace.Goals as goal

pub overflow_sub-last : goal.overflow_sub-last
overflow_sub-last c = omega (arith, ends c.requires)

pub put_pieces-requires : goal.put_pieces-requires
put_pieces-requires c =
    let h = c.requires in
    simp (length-take, length-drop) (omega (arith, room h, h.holds.long))

pub returns : goal.returns
returns c = replaced c.requires _ _ _ c.copy_within.ensures.after c.put_pieces.ensures c.clear.ensures
