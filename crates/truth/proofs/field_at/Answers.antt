-- A String tag of the name has the text; any other tag is none that the field looks for.
use mathlib.Core.Path.{sym, ◌∙◌}
use Rattle.format.specs.Tables as tables
use Rattle.format.specs.Order.{decode_tag}
use Rattle.truth.specs.TruthAnswers.{tag_meets}
use Rattle.truth.proofs.Candidates.{no_text}
use Rattle.truth.proofs.Values.{sought-code, text-meets}
use Rattle.truth.proofs.field_at.Goals as goal

pub text_at-requires-clause-at_value : goal.text_at-requires-clause-at_value
text_at-requires-clause-at_value c =
    let is = sym c.if-is_candidate.true ∙ c.is_candidate.ensures in
    sought-code _ _ 2 _ is

pub returns-then-is_candidate : goal.returns-then-is_candidate
unfolding tag_meets
returns-then-is_candidate c =
    let a = c.args in
    let is = sym c.if-is_candidate.true ∙ c.is_candidate.ensures in
    rw c.text_at.ensures at c.same.ensures
    ∙ text-meets a.name.now (λ v. tables.same v a.text.now) (decode_tag a.tags.now a.at) is

pub returns : goal.returns
unfolding tag_meets
returns c =
    let a = c.args in
    no_text a.name.now (λ v. tables.same v a.text.now) (decode_tag a.tags.now a.at) (sym c.if-is_candidate.false ∙ c.is_candidate.ensures)
