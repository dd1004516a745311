-- The list was surveyed and has one size tag; the verdict is that of the pass over the range.
use mathlib.Core.Path.{sym, ◌∙◌}
use Rattle.part_tags.proofs.Checks.{checked-passes, checked-stopped, checked-unsized, pass_all, range-placed}
use Rattle.part_tags.proofs.check_in_two_passes.Goals as goal

pub returns-in_default : goal.returns-in_default
returns-in_default c = let a = c.args in checked-unsized a.s.now a.at a.count _ c.in_ok-range.ensures _ (sym c.in_default.is ∙ c.only.ensures)

pub returns-in-Ok : goal.returns-in-Ok
returns-in-Ok c =
    let a = c.args in
    let tags = c.in-Ok.ensures.found in
    checked-passes a.s.now a.at a.count _ c.in_ok-range.ensures _ _ (sym c.in-Some.is ∙ c.only.ensures) _ tags.few tags.inside (pass_all a.s.now _ _ _ _ _ _ _ tags)

pub returns-in-Err : goal.returns-in-Err
returns-in-Err c =
    let a = c.args in
    let scanned = c.in-Err.ensures.found _ (range-placed a.s.now a.at a.count _ c.in_ok-range.ensures) in
    checked-stopped a.s.now a.at a.count _ c.in_ok-range.ensures _ _ (sym c.in-Some.is ∙ c.only.ensures) _ scanned
