-- The lists are equal exactly when the tags from the next ones on are (`Compared` of PlainTags), whatever lists the loop began with.
use Rattle.format.specs.PutGaps.{plain_tags}
use Rattle.tags.specs.TagAnswers.{tags_in}
use Rattle.std.specs.Prelude.{Some}
use Rattle.merge_compare.proofs.Answers.{says-equal, says-no}
use Rattle.merge_compare.proofs.PlainTags.{Compared, compared-all, compared-bytes, compared-next, compared-short}
use Rattle.merge_compare.proofs.same_by_tag.Goals as goal
use Rattle.merge_compare.proofs.same_by_tag.Goals.{In-Some-other_next}

both : (c : In-Some-other_next) → Compared c.args.s.now c.args.t.now (plain_tags (tags_in c.args.s.now c.args.tags)) (plain_tags (tags_in c.args.t.now c.args.other))
    (Some c.in-Some.found) (Some c.in-Some-other_next.other_found)
both c = rw (c.in-Some.is, c.in-Some-other_next.is) at (c.loop-next.invariant _ _ c.next_plain-next.ensures.found c.next_plain-other_next.ensures.found)

pub returns-in_default-other_next : goal.returns-in_default-other_next
returns-in_default-other_next c =
    let compared = c.loop-next.invariant _ _ c.next_plain-next.ensures.found c.next_plain-other_next.ensures.found in
    compared-short _ (rw (c.in-Some.is, c.in_default-other_next.is) at compared)

pub overflow_sub-found : goal.overflow_sub-found
overflow_sub-found c = (both (goal.at.overflow_sub-found c).In-Some-other_next).found.order

pub overflow_sub-other_found : goal.overflow_sub-other_found
overflow_sub-other_found c = (both (goal.at.overflow_sub-other_found c).In-Some-other_next).other_found.order

pub returns-then-not-same : goal.returns-then-not-same
returns-then-not-same c =
    let tags = rw (c.bytes_at-tag.ensures, c.bytes_at-other_tag.ensures) at c.same.ensures in
    says-no tags c.if-not-same.true (compared-bytes _ _ (both (goal.at.returns-then-not-same c).In-Some-other_next))

pub next_plain-next-requires-in-Some : goal.next_plain-next-requires-in-Some
next_plain-next-requires-in-Some c = (both (goal.at.next_plain-next-requires-in-Some c).In-Some-other_next).found.there

pub next_plain-other_next-requires-in-Some : goal.next_plain-other_next-requires-in-Some
next_plain-other_next-requires-in-Some c = (both (goal.at.next_plain-other_next-requires-in-Some c).In-Some-other_next).other_found.there

pub loop-next-preserved : goal.loop-next-preserved
loop-next-preserved c = λ all others f g.
    let tags = rw (c.bytes_at-tag.ensures, c.bytes_at-other_tag.ensures) at c.same.ensures in
    let compared = rw (c.in-Some.is, c.in-Some-other_next.is) at (c.loop-next.invariant all others f g) in
    compared-next _ _ compared (says-equal tags c.if-not-same.false) _ _ c.next_plain-next-in-Some.ensures.found c.next_plain-other_next-in-Some.ensures.found

pub returns : goal.returns
returns c =
    let compared = c.loop-next.invariant _ _ c.next_plain-next.ensures.found c.next_plain-other_next.ensures.found in
    compared-all _ _ c.is_none.ensures (rw c.in_default.is at compared)
