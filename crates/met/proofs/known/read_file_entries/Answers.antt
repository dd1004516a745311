-- A count and the entries after it, by the law of such lists.
use Rattle.format.specs.Order.{decode_dword}
use Rattle.format.proofs.There.{dword-ends}
use Rattle.format.proofs.MetFiles.{codec-entry}
use Rattle.wire.proofs.Inside.{counted-inside}
use Rattle.met.proofs.known.read_file_entries.Goals as goal

pub returns-clause-placed : goal.returns-clause-placed
returns-clause-placed c =
    (counted-inside codec-entry _ c.type_inv.s decode_dword _ _ (dword-ends _ _) c.in_ok-count.ensures c.file_entries_from.result (c.file_entries_from.ensures.meaning, c.file_entries_from.ensures.placed)).1
