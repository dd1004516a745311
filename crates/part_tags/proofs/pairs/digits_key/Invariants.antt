-- The loop: the key of all digits is that of those from i on, after the key so far.
use Prim.Native.Nat.{◌≤◌}
use mathlib.Core.Path.{◌≡◌}
use lib.ListN.{length, drop}
use Rattle.format.specs.Tables.{pick}
use Rattle.format.specs.PartTagOrder.{decimal}
use Rattle.std.specs.Prelude.{None, Some}
use Rattle.part_tags.specs.Pairs.{key_from, spec_key_found}
use Rattle.part_tags.proofs.pairs.digits_key.Given as goal

abbrev pub invariant-loop-i : goal.invariant-loop-i
invariant-loop-i l = (l.i ≤ length l.digits) × (spec_key_found l.digits ≡ pick (decimal (drop l.i l.digits)) (Some (key_from l.key (drop l.i l.digits))) None)
