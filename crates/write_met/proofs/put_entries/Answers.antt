-- The opening byte and the counted entries: `after` of the output's laws.
use mathlib.Core.List.{◌++◌}
use Rattle.format.specs.Layout.{byte, dword}
use Rattle.format.proofs.Codec.{length-little_endian}
use Rattle.output.proofs.Laws.{after}
use Rattle.write_met.proofs.put_entries.Goals as goal

pub returns-clause-output : goal.returns-clause-output
returns-clause-output c =
    let a = c.args in
    let opened = c.put_byte.ensures in
    after (byte a.opening) (dword a.count ++ a.entries.now) _ _ _ 1 (length-little_endian 1 a.opening) opened c.put_list-wrote.ensures.output
