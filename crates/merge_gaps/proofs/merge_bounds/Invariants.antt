-- The bounds kept so far enclose what the merge decides of the passed ones (`Walked` of Merged).
use Prim.Native.Nat.{◌+◌, ◌-◌}
use Rattle.merge_gaps.proofs.Numbers.{RecordsWalked}
use Rattle.merge_gaps.proofs.merge_bounds.Given as goal

abbrev pub invariant-loop-opened_passed : goal.invariant-loop-opened_passed
invariant-loop-opened_passed l = RecordsWalked l.opened l.first l.second l.initial.out l.opened_passed l.first_passed l.second_passed l.kept l.out

abbrev pub decreases-loop-opened_passed : goal.decreases-loop-opened_passed
decreases-loop-opened_passed l = l.all - (l.opened_passed + l.first_passed + l.second_passed)
