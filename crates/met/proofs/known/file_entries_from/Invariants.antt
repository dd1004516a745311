-- Each turn skips one entry: by its end where the tests tell it, else by reading it.
use Rattle.format.specs.MetOrder.{decode_file_entry}
use Rattle.wire.proofs.Loops.{ReadUpTo}
use Rattle.met.proofs.known.file_entries_from.Given as goal

abbrev pub invariant-loop : goal.invariant-loop
invariant-loop l = ReadUpTo decode_file_entry l.s l.at l.count l.counter l.end
