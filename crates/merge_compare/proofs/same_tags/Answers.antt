-- Tag against tag; or by the two runs of each file (`by_runs` of Runs).
use mathlib.Core.Path.{sym, ◌∙◌}
use borrow.Author.Tests.{ltb-false}
use Rattle.wire.proofs.Replies.{slice-bytes}
use Rattle.put_gaps.proofs.Lengths.{tags-same}
use Rattle.merge_compare.proofs.Runs.{by_runs}
use Rattle.merge_compare.proofs.same_tags.Goals as goal

pub returns-then-is_mixed : goal.returns-then-is_mixed
returns-then-is_mixed c =
    let e = c.args in
    rw (tags-same _ e.part, tags-same _ e.other) (rw (c.tags.ensures, c.tags-then-is_mixed.ensures) at c.same_by_tag.ensures)

pub returns-then-is_mixed-2 : goal.returns-then-is_mixed-2
returns-then-is_mixed-2 c =
    let e = c.args in
    rw (tags-same _ e.part, tags-same _ e.other) (rw (c.tags-then-is_mixed-2.ensures, c.tags-then-is_mixed-2-2.ensures) at c.same_by_tag-then-is_mixed-2.ensures)

pub returns : goal.returns
returns c =
    let s = c.args.s.now in
    let t = c.args.t.now in
    let joined =
    rw (c.run_before.ensures, c.run_after.ensures, c.run_before-2.ensures, c.run_after-2.ensures) at
    c.same_joined.ensures in
    let runs =
    by_runs s (slice-bytes s c.type_inv.s) c.args.part c.args.gaps c.requires.0
    t (slice-bytes t c.type_inv.t) c.args.other c.args.other_gaps c.requires.1
    (ltb-false 0 _ (sym c.is_mixed.ensures ∙ c.if-is_mixed.false)) (ltb-false 0 _ (sym c.is_mixed-2.ensures ∙ c.if-is_mixed-2.false)) in
    (λ q. runs.0 (joined.0 q), λ q. joined.1 (runs.1 q))
