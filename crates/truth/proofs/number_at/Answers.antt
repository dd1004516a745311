-- A DWORD lies where the value of the tag does, and is its number (`number_is` of Values).
use mathlib.Core.Path.{refl, ◌∙◌}
use Rattle.format.proofs.Codec.{never, same-value}
use Rattle.truth.proofs.Values.{number_is}
use Rattle.truth.proofs.number_at.Goals as goal

pub returns-in_default : goal.returns-in_default
returns-in_default c = absurd (never (rw (c.in_default.is, c.value_at.ensures) at c.dword.ensures ∙ (number_is _ _ _ refl c.requires.lies c.requires.at_value).1))

pub returns : goal.returns
returns c = same-value (rw c.value_at.ensures at c.in-Ok.ensures ∙ (number_is _ _ _ refl c.requires.lies c.requires.at_value).1)
