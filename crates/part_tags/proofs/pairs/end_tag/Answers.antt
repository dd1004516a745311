-- Each test that fails is a tag that does not end the pair, and one that passes ends it, by the laws `ends-..` of GapTags.
use Prim.Native.Nat.{◌+◌}
use mathlib.Core.Path.{◌≡◌, sym, ◌∙◌}
use mathlib.Core.Bool.{true}
use lib.ListN.{get_or}
use Rattle.format.specs.Tables.{same}
use Rattle.part_tags.specs.TagBytes.{spec_digits_at, number_at}
use Rattle.part_tags.proofs.TagLaws.{bytes_of}
use Rattle.part_tags.proofs.GapTags.{ends-not, ends-odd, ends-other, ends-early, ends-late, ends-pair, number_is, after_is, after_next}
use native.Mathlib.Omega.{arith}
use Rattle.part_tags.proofs.pairs.end_tag.Goals as goal
use Rattle.part_tags.proofs.pairs.end_tag.Goals.{After-digits_at, After-dword_at-end}

name : (c : After-digits_at) → let a = c.args in get_or a.s.now (a.at + 3) 0 ≡ 10
name c = c.if-first-ne-END_NAME.false

type : (c : After-digits_at) → let a = c.args in get_or a.s.now a.at 0 ≡ 3
type c = c.if-code-ne-DWORD_TYPE.false

number : (c : After-dword_at-end) → c.dword_at-end.result ≡ number_at c.args.s.now c.args.at
number c = number_is c.args.s.now c.args.at c.name_length-length.ensures c.dword_at-end.ensures

equal : (c : After-dword_at-end) → same c.args.digits.now (spec_digits_at c.args.s.now c.args.at) ≡ true
equal c = rw c.digits_at.ensures at (sym c.same.ensures ∙ c.if-not-same.false)

pub overflow_add-first : goal.overflow_add-first
overflow_add-first c = let t = bytes_of c.args.s.now c.args.at c.requires in omega (arith, t.inside, t.some-name)

pub bounds-s-at : goal.bounds-s-at
bounds-s-at c = let t = bytes_of c.args.s.now c.args.at c.requires in omega (arith, t.inside, t.some-name)

pub returns-then-first-ne-END_NAME : goal.returns-then-first-ne-END_NAME
returns-then-first-ne-END_NAME c = λ ps. ends-not c.args.s.now c.args.at c.requires ps _ _ _ c.if-first-ne-END_NAME.true

pub returns-then-code-ne-DWORD_TYPE : goal.returns-then-code-ne-DWORD_TYPE
returns-then-code-ne-DWORD_TYPE c = λ ps. ends-odd c.args.s.now c.args.at c.requires ps _ _ _ c.if-first-ne-END_NAME.false c.if-code-ne-DWORD_TYPE.true

pub returns-then-not-same : goal.returns-then-not-same
returns-then-not-same c = λ ps. ends-other c.args.s.now c.args.at c.requires ps _ _ _ (name (goal.at.returns-then-not-same c).After-digits_at) (type (goal.at.returns-then-not-same c).After-digits_at) (rw c.digits_at.ensures at (sym c.same.ensures ∙ c.if-not-same.true))

pub returns-then-end-start : goal.returns-then-end-start
returns-then-end-start c = λ ps. ends-early c.args.s.now c.args.at c.requires ps _ _ _ (name (goal.at.returns-then-end-start c).After-digits_at) (type (goal.at.returns-then-end-start c).After-digits_at) (equal (goal.at.returns-then-end-start c).After-dword_at-end) (rw (number (goal.at.returns-then-end-start c).After-dword_at-end) at c.if-end-start.true)

pub returns-then-size-end : goal.returns-then-size-end
returns-then-size-end c = λ ps. ends-late c.args.s.now c.args.at c.requires ps _ _ _ (name (goal.at.returns-then-size-end c).After-digits_at) (type (goal.at.returns-then-size-end c).After-digits_at) (equal (goal.at.returns-then-size-end c).After-dword_at-end) (rw (number (goal.at.returns-then-size-end c).After-dword_at-end) at c.if-end-start.false) (rw (number (goal.at.returns-then-size-end c).After-dword_at-end) at c.if-size-end.true)

pub returns : goal.returns
returns c =
    let s = c.args.s.now in
    let length = c.name_length-length.ensures in
    let next = after_next s c.args.at length c.requires (type (goal.at.returns c).After-digits_at) in record {
      end-of = number (goal.at.returns c).After-dword_at-end;
      after-of = after_is s c.args.at length;
      inside = next.1;
      next = next.0;
      steps = λ ps. rw (number (goal.at.returns c).After-dword_at-end) (ends-pair c.args.s.now c.args.at c.requires ps _ _ _ (name (goal.at.returns c).After-digits_at) (type (goal.at.returns c).After-digits_at) (equal (goal.at.returns c).After-dword_at-end) (rw (number (goal.at.returns c).After-dword_at-end) at c.if-end-start.false) (rw (number (goal.at.returns c).After-dword_at-end) at c.if-size-end.false));
    }
