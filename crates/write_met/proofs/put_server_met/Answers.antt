-- The entries and the tail: `after` of the output's laws.
use mathlib.Core.Path.{sym, ◌∙◌}
use mathlib.Core.List.{◌++◌}
use Rattle.format.specs.Layout.{byte, dword}
use Rattle.output.proofs.Laws.{after}
use Rattle.write_met.proofs.Known.{entries-size}
use Rattle.write_met.proofs.put_server_met.Goals as goal

pub returns-clause-output : goal.returns-clause-output
returns-clause-output c =
    let a = c.args in
    let own = byte a.opening ++ (dword a.count ++ a.entries.now) in
    after own a.tail.now _ _ _ _ (entries-size a.opening a.count a.entries.now ∙ sym c.put_entries-at.ensures.written) c.put_entries-at.ensures.output c.copy.ensures
