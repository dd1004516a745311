-- Where the list is there, a rule is broken by the tag, by its being the last, or by the tag after it; else both tags make a pair.
use mathlib.Core.Path.{sym, ◌∙◌}
use Rattle.wire.proofs.Steps.{propagated}
use Rattle.part_tags.proofs.TagLaws.{bytes_of, tag-ends, there-is}
use Rattle.part_tags.proofs.Turns.{pair-lone, pair-open, pair-stops, pair-taken, second-there}
use native.Mathlib.Omega.{arith}
use Rattle.part_tags.proofs.pairs.take_pair.Goals as goal

pub returns-in_err-key : goal.returns-in_err-key
returns-in_err-key c =
    let a = c.args in
    rw (propagated _ c.from_residual.ensures.1) (λ end placed. pair-stops a.s.now a.size _ (record { at = a.at; end = end; count = a.left }) placed c.requires.2 (c.in_err-key.ensures a.size))

pub returns-then-left-lt2 : goal.returns-then-left-lt2
returns-then-left-lt2 c =
    let a = c.args in
    λ end placed. pair-lone a.s.now a.size _ (record { at = a.at; end = end; count = a.left }) placed c.requires.2 c.in_ok-key.ensures c.if-left-lt2.true

pub returns-then-second_end-eq0 : goal.returns-then-second_end-eq0
returns-then-second_end-eq0 c =
    let a = c.args in
    λ end placed.
    let there = second-there a.s.now a.size _ (record { at = a.at; end = end; count = a.left }) placed c.requires.2 c.in_ok-key.ensures c.if-left-lt2.false in
    absurd (tag-ends a.s.now _ there (sym c.tag_after-second_end.ensures ∙ c.if-second_end-eq0.true))

pub digits_at-requires : goal.digits_at-requires
digits_at-requires c = let t = bytes_of c.args.s.now c.args.at c.requires.0 in omega (arith, t.inside, t.some-name)

pub end_tag-requires : goal.end_tag-requires
end_tag-requires c = there-is _ _ c.tag_after-second_end.ensures c.if-second_end-eq0.false

pub returns-in_err-end : goal.returns-in_err-end
returns-in_err-end c =
    let a = c.args in
    let unended = rw c.digits_at.ensures at c.in_err-end.ensures in
    rw (propagated _ c.from_residual-in_err-end.ensures.1) (λ end placed. pair-open a.s.now a.size _ (record { at = a.at; end = end; count = a.left }) placed c.requires.2 c.in_ok-key.ensures c.if-left-lt2.false unended)

pub returns : goal.returns
returns c =
    let a = c.args in
    let there = there-is _ _ c.tag_after-second_end.ensures c.if-second_end-eq0.false in
    let ended = rw c.digits_at.ensures at c.in_ok-end.ensures in
    pair-taken a.s.now a.size _ a.at a.left c.requires.0 c.requires.1 c.if-left-lt2.false c.in_ok-key.ensures there ended
