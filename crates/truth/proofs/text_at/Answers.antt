-- The text of a tag that lies there lies there too (`text-lies` of tags), and is the one decoded (`text-is` of Values).
use mathlib.Core.Path.{refl, ◌∙◌}
use native.Mathlib.Omega.{arith}
use Rattle.tags.proofs.WholeTags.{text-lies}
use Rattle.truth.proofs.Values.{text-is}
use Rattle.truth.proofs.text_at.Goals as goal

pub bounds-tags-value : goal.bounds-tags-value
bounds-tags-value c = omega (arith, c.value_at-value.ensures, text-lies _ _ _ refl c.requires.lies c.requires.at_value)

pub bounds-tags-value-2 : goal.bounds-tags-value-2
bounds-tags-value-2 c = omega (arith, c.value_at-value.ensures, text-lies _ _ _ refl c.requires.lies c.requires.at_value)

pub returns : goal.returns
returns c = c.bytes_at.ensures ∙ rw c.value_at-value.ensures (text-is _ _ _ refl c.requires.lies _ c.requires.at_value (rw c.value_at-value.ensures at c.pair-length.ensures))
