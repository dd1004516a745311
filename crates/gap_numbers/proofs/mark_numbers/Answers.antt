-- What is refused with 8, by the laws of Marks; a range that may be marked is left to take_out (`may`).
use native.Mathlib.Omega.{arith}
use mathlib.Core.Path.{sym, ◌∙◌}
use Rattle.format.specs.Gaps.{size_limit}
use Rattle.gaps.proofs.GapRecords.{total-missing}
use Rattle.gap_numbers.specs.Numbers.{held}
use Rattle.gap_numbers.proofs.Marks.{unlawful, held-in, held-lawful, no-range, outside, may}
use Rattle.gap_numbers.proofs.mark_numbers.Goals as goal

pub returns-in_default : goal.returns-in_default
returns-in_default c = unlawful _ _ _ c.in_default.ensures.told

pub bounds-numbers-0 : goal.bounds-numbers-0
bounds-numbers-0 c = omega (arith, (held-in _ c.args.start c.args.end c.in-Some.ensures.told).0)

pub returns-then-end-start : goal.returns-then-end-start
returns-then-end-start c = no-range _ _ _ c.in-Some.ensures.told c.if-end-start.true

pub returns-then-numbers-end : goal.returns-then-numbers-end
returns-then-numbers-end c = outside _ _ _ c.in-Some.ensures.told c.if-end-start.false c.if-numbers-end.true

pub take_out-requires : goal.take_out-requires
take_out-requires c =
    let a = c.args in
    let l = a.numbers.now in
    let lawful = c.in-Some.ensures.told in
    let h = held-in l a.start a.end lawful in (
      h.0,
      may l a.start a.end lawful c.if-end-start.false c.if-numbers-end.false,
      rw h.1 at c.in-Some.ensures.counted ∙ sym (total-missing size_limit (held l) (sym (held-lawful l a.start a.end lawful))),
    )

pub returns : goal.returns
returns c = rw (held-in _ c.args.start c.args.end c.in-Some.ensures.told).1 c.take_out.ensures
