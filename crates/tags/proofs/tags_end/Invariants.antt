-- Each turn passes one tag whose end the tests tell: the laws of Loops.
use Rattle.format.specs.Order.{decode_tag}
use Rattle.wire.proofs.Loops.{ReadUpTo}
use Rattle.tags.proofs.tags_end.Given as goal

abbrev pub invariant-loop : goal.invariant-loop
invariant-loop l = ReadUpTo decode_tag l.s l.at l.count l.counter l.next
