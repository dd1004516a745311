-- Piece by piece (`by-pieces` of Joined).
use Rattle.merge_compare.proofs.Answers.{says, says-equal, says-no}
use Rattle.merge_compare.proofs.Joined.{by-pieces}
use Rattle.merge_compare.proofs.same_after_shorter.Goals as goal

pub returns-then-not-same : goal.returns-then-not-same
returns-then-not-same c =
    let pieces = by-pieces c.args.long.now c.args.after_long.now c.args.short.now c.args.after_short.now c.requires in
    let first = rw c.bytes_at.ensures at c.same.ensures in
    says-no first c.if-not-same.true (λ q. (pieces.0 q).0)

pub returns-then-not-same-2 : goal.returns-then-not-same-2
returns-then-not-same-2 c =
    let pieces = by-pieces c.args.long.now c.args.after_long.now c.args.short.now c.args.after_short.now c.requires in
    let second = rw (c.bytes_at-2.ensures, c.bytes_at-3.ensures) at c.same-2.ensures in
    says-no second c.if-not-same-2.true (λ q. (pieces.0 q).1.0)

pub returns : goal.returns
returns c =
    let pieces = by-pieces c.args.long.now c.args.after_long.now c.args.short.now c.args.after_short.now c.requires in
    let first = rw c.bytes_at.ensures at c.same.ensures in
    let second = rw (c.bytes_at-2.ensures, c.bytes_at-3.ensures) at c.same-2.ensures in
    let last = rw c.bytes_at-4.ensures at c.same-3.ensures in
    says last (
      λ q. pieces.1 (says-equal first c.if-not-same.false, (says-equal second c.if-not-same-2.false, q)),
      λ q. (pieces.0 q).1.1,
    )
