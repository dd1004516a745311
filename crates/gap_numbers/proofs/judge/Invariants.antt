-- Up to gap i the record is lawful, and its missing bytes are counted (`Judging` of Loops).
use Rattle.gap_numbers.proofs.Loops.{Judging}
use Rattle.gap_numbers.proofs.judge.Given as goal

abbrev pub invariant-loop-i : goal.invariant-loop-i
invariant-loop-i l = Judging l.numbers l.low l.missing l.i
