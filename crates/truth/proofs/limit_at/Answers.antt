-- A DWORD tag of the name has a number within the bound; any other tag is none that the limit looks for.
use mathlib.Core.Path.{sym, ◌∙◌}
use Rattle.format.specs.Order.{decode_tag}
use Rattle.format.specs.Truth.{within}
use Rattle.query.specs.QueryAnswers.{bound_of}
use Rattle.truth.specs.TruthAnswers.{tag_meets}
use Rattle.truth.proofs.Candidates.{no_number}
use Rattle.truth.proofs.Values.{number-meets, sought-code}
use Rattle.truth.proofs.limit_at.Goals as goal

pub number_at-requires-clause-at_value : goal.number_at-requires-clause-at_value
number_at-requires-clause-at_value c =
    let is = sym c.if-is_candidate.true ∙ c.is_candidate.ensures in
    sought-code _ _ 3 _ is

pub returns-then-is_candidate : goal.returns-then-is_candidate
unfolding tag_meets
returns-then-is_candidate c =
    let a = c.args in
    let is = sym c.if-is_candidate.true ∙ c.is_candidate.ensures in
    rw c.number_at.ensures at c.is_within.ensures
    ∙ number-meets a.name.now (within (bound_of a.bound) a.threshold) (decode_tag a.tags.now a.at) is

pub returns : goal.returns
unfolding tag_meets
returns c =
    let a = c.args in
    no_number a.name.now (within (bound_of a.bound) a.threshold) (decode_tag a.tags.now a.at) (sym c.if-is_candidate.false ∙ c.is_candidate.ensures)
