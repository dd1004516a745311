-- The loop: the record holds the gaps of the first `filled` pairs, and 0 in the other slots.
use Prim.Native.Nat.{◌≤◌}
use mathlib.Core.Path.{◌≡◌}
use Rattle.gaps.specs.declared.GapRecord.{GapRecord}
use Rattle.part_tags.proofs.GapTags.{slots_of}
use Rattle.part_tags.proofs.record_of.Given as goal

abbrev pub invariant-loop-filled : goal.invariant-loop-filled
invariant-loop-filled l = (l.filled ≤ l.count) × (◌≡◌ {A = GapRecord} l.made (record { size = l.size; count = l.count; gaps = slots_of l.s l.filled l.starts }))
