-- A tag that lies there ends after its value, by its type: the laws of WholeTags.
use native.Mathlib.Omega.{arith}
use Rattle.tags.proofs.WholeTags.{hash-ends, head-lies, name-lies, other-ends, text-ends, text-lies}
use Rattle.tags.proofs.named_tag_end.Goals as goal

pub overflow_add-name : goal.overflow_add-name
overflow_add-name c = omega (arith, head-lies _ _ c.requires.lies)

pub overflow_add-value : goal.overflow_add-value
overflow_add-value c = omega (arith, name-lies _ _ _ c.requires.name_len_value c.requires.lies)

pub bounds-s-at : goal.bounds-s-at
bounds-s-at c = omega (arith, head-lies _ _ c.requires.lies)

pub bounds-s-value : goal.bounds-s-value
bounds-s-value c = omega (arith, text-lies _ _ _ c.requires.name_len_value c.requires.lies c.if-code-eq-TEXT_CODE.true)

pub bounds-s-value-then-code-eq-TEXT_CODE : goal.bounds-s-value-then-code-eq-TEXT_CODE
bounds-s-value-then-code-eq-TEXT_CODE c = omega (arith, text-lies _ _ _ c.requires.name_len_value c.requires.lies c.if-code-eq-TEXT_CODE.true)

pub returns-then-code-eq-TEXT_CODE : goal.returns-then-code-eq-TEXT_CODE
returns-then-code-eq-TEXT_CODE c = (text-ends _ _ _ c.requires.name_len_value c.requires.lies _ c.if-code-eq-TEXT_CODE.true c.pair-text_len.ensures).1

pub returns-then-code-eq-HASH_CODE : goal.returns-then-code-eq-HASH_CODE
returns-then-code-eq-HASH_CODE c = (hash-ends _ _ _ c.requires.name_len_value c.requires.lies c.if-code-eq-HASH_CODE.true).1

pub overflow_add-result-2 : goal.overflow_add-result-2
overflow_add-result-2 c = omega (arith, (other-ends _ _ _ c.requires.name_len_value c.requires.lies c.if-code-eq-TEXT_CODE.false c.if-code-eq-HASH_CODE.false).0)

pub returns : goal.returns
returns c = (other-ends _ _ _ c.requires.name_len_value c.requires.lies c.if-code-eq-TEXT_CODE.false c.if-code-eq-HASH_CODE.false).1
