-- The tags that were passed are gap tags (`Passed` of PlainTags).
use Rattle.merge_compare.proofs.PlainTags.{Passed}
use Rattle.merge_compare.proofs.next_plain.Given as goal

abbrev pub invariant-loop-i : goal.invariant-loop-i
invariant-loop-i l = Passed l.s l.at l.left l.i l.next.at
