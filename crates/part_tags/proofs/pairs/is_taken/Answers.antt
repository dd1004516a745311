-- Digits whose key is above the highest are new: `key-new` of GapTags.
use mathlib.Core.Path.{sym}
use Rattle.part_tags.proofs.GapTags.{key-new}
use native.Mathlib.Omega.{arith}
use Rattle.part_tags.proofs.pairs.is_taken.Goals as goal

pub returns-then-progress-key : goal.returns-then-progress-key
returns-then-progress-key c = let k = c.requires.0 in sym (key-new c.args.digits.now _ _ k.keys (omega (arith, c.requires.1, c.if-progress-key.true)))
