-- What is read of the saves that win (`reads-of`, `part-of` of Choosing).
use mathlib.Core.Path.{sym, ap, subst, ◌∙◌}
use Rattle.merge.specs.Choices.{Reads, part_from}
use Rattle.merge.proofs.Choosing.{part-of, reads-of}
use Rattle.merge.proofs.put_chosen.Goals as goal

pub put_merged-requires : goal.put_merged-requires
put_merged-requires c =
    let e = c.requires in
    let form = subst Reads (sym c.of-form.ensures) (reads-of c.args.form c.args.first c.args.second e.0 e.1) in
    let tags = subst Reads (sym c.of-tags.ensures) (reads-of c.args.tags c.args.first c.args.second e.0 e.1) in
    (form.read, tags, e.2)

pub returns : goal.returns
returns c =
    let form = ap part_from c.of-form.ensures ∙ part-of c.args.form c.args.first c.args.second in
    let tags = ap part_from c.of-tags.ensures ∙ part-of c.args.tags c.args.first c.args.second in
    rw (form, tags, c.max-date.ensures, c.date_of.ensures, c.date_of-2.ensures) at c.put_merged.ensures
