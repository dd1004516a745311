-- The loop: the digits are used by one of the pairs if they are used by one of the first i.
use Prim.Native.Nat.{◌≤◌}
use mathlib.Core.Path.{◌≡◌}
use Rattle.format.specs.PartTagOrder.{used}
use Rattle.part_tags.specs.Pairs.{first_pairs}
use Rattle.part_tags.proofs.pairs.is_used.Given as goal

abbrev pub invariant-loop-i : goal.invariant-loop-i
invariant-loop-i l = (l.i ≤ l.count) × (used l.digits (first_pairs l.s l.count l.starts) ≡ used l.digits (first_pairs l.s l.i l.starts))
