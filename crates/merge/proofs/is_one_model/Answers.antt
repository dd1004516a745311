-- Sizes and hashes are compared one after the other (the laws of Models).
use native.Mathlib.Omega.{arith}
use Rattle.merge.proofs.Models.{first-hash, first-size, one-model, second-size}
use Rattle.merge.proofs.Numbers.{sized-as, sized_of}
use mathlib.Core.Path.{sym, ◌∙◌}
use Rattle.merge.proofs.is_one_model.Goals as goal

pub returns-then-first-size : goal.returns-then-first-size
returns-then-first-size c = first-size _ _ _ _ _ (sized_of c.args.first c.requires.1) c.if-first-size.true

pub returns-then-second-size : goal.returns-then-second-size
returns-then-second-size c = second-size _ _ _ _ _ (sized_of c.args.second c.requires.2) c.if-second-size.true

pub returns-then-not-same_hash : goal.returns-then-not-same_hash
returns-then-not-same_hash c = first-hash _ _ _ _ (sym c.same_hash.ensures ∙ c.if-not-same_hash.true)

pub returns : goal.returns
returns c =
    let e = c.requires in
    one-model _ _ _ _
    (sized_of c.args.opened e.0)
    (sized-as c.args.first e.1 c.args.opened.gaps.size (omega arith))
    (sized-as c.args.second e.2 c.args.opened.gaps.size (omega arith))
    (sym c.same_hash.ensures ∙ c.if-not-same_hash.false)
    _ c.same_hash-2.ensures
