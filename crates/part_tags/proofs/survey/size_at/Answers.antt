-- Each test that fails is no size tag, and one that passes has the size, by the laws of SizeTags.
use Rattle.part_tags.proofs.TagLaws.{bytes_of}
use Rattle.part_tags.proofs.SizeTags.{size-byte, size-length, size_type, size-there}
use native.Mathlib.Omega.{arith}
use Rattle.part_tags.proofs.survey.size_at.Goals as goal

pub overflow_add-first : goal.overflow_add-first
overflow_add-first c = let t = bytes_of c.args.s.now c.args.at c.requires in omega (arith, t.inside, t.some-name)

pub bounds-s-at : goal.bounds-s-at
bounds-s-at c = let t = bytes_of c.args.s.now c.args.at c.requires in omega (arith, t.inside, t.some-name)

pub returns-then-first-ne-SIZE_NAME : goal.returns-then-first-ne-SIZE_NAME
returns-then-first-ne-SIZE_NAME c = size-byte c.args.s.now c.args.at c.requires c.if-first-ne-SIZE_NAME.true

pub returns-then-length-ne1 : goal.returns-then-length-ne1
returns-then-length-ne1 c = size-length c.args.s.now c.args.at c.requires c.if-length-ne1.true

pub returns-then-code-ne-DWORD_TYPE : goal.returns-then-code-ne-DWORD_TYPE
returns-then-code-ne-DWORD_TYPE c = size_type c.args.s.now c.args.at c.requires c.if-code-ne-DWORD_TYPE.true

pub returns : goal.returns
returns c = rw c.dword_at.ensures (size-there c.args.s.now c.args.at c.requires c.if-first-ne-SIZE_NAME.false c.if-length-ne1.false c.if-code-ne-DWORD_TYPE.false)
