-- Each turn skips one record: by its end where the tests tell it, else by reading it.
use Rattle.format.specs.Order.{decode_record}
use Rattle.wire.proofs.Loops.{ReadUpTo}
use Rattle.records.proofs.records_from.Given as goal

abbrev pub invariant-loop : goal.invariant-loop
invariant-loop l = ReadUpTo decode_record l.s l.at l.count l.counter l.end
