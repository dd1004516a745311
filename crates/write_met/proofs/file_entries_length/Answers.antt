use mathlib.Core.Path.{◌∙◌}
use Rattle.format.proofs.MetFiles.{codec-entry}
use Rattle.format.proofs.Writing.{entry-needed}
use Rattle.write_met.proofs.Lists.{list-after, list-ends}
use Rattle.write_met.proofs.file_entries_length.Goals as goal

pub length_from-requires : goal.length_from-requires
length_from-requires c =
    let a = c.args in
    list-after codec-entry entry-needed a.s.now c.type_inv.s a.list c.file_entries_from.result c.file_entries_from.ensures.meaning

pub returns : goal.returns
returns c =
    let a = c.args in
    c.length_from.ensures
    ∙ list-ends codec-entry entry-needed a.s.now c.type_inv.s a.list c.file_entries_from.result c.file_entries_from.ensures.meaning
