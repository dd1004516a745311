-- By the kind of the leaf.
use mathlib.Core.Path.{refl, sym}
use Rattle.tags.specs.TagAnswers.{tags_in}
use Rattle.truth.specs.TruthAnswers.{tag_meets}
use Rattle.truth.proofs.Found.{some-never}
use Rattle.truth.proofs.leaf_holds.Goals as goal

pub returns-in-Join : goal.returns-in-Join
unfolding tag_meets
returns-in-Join c =
    let a = c.args in
    rw c.in-Join.is (sym (some-never _ (λ t. refl) (tags_in a.tags.now a.list)))
