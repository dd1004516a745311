use mathlib.Core.Path.{◌∙◌}
use Rattle.format.proofs.MetFiles.{codec-server}
use Rattle.format.proofs.Writing.{server-needed}
use Rattle.write_met.proofs.Lists.{list-after, list-ends}
use Rattle.write_met.proofs.server_entries_length.Goals as goal

pub length_from-requires : goal.length_from-requires
length_from-requires c =
    let a = c.args in
    list-after codec-server server-needed a.s.now c.type_inv.s a.list c.server_entries_from.result c.server_entries_from.ensures.meaning

pub returns : goal.returns
returns c =
    let a = c.args in
    c.length_from.ensures
    ∙ list-ends codec-server server-needed a.s.now c.type_inv.s a.list c.server_entries_from.result c.server_entries_from.ensures.meaning
