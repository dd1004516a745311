-- The bytes before the date, the date and the bytes after it are written one after the other (`head-pieces` of Joined).
use Rattle.std.proofs.Common.{rules}
use Rattle.merge_write.proofs.Joined.{date-inside, head-pieces, length_front}
use Rattle.output.proofs.Laws.{after}
use Rattle.format.proofs.Codec.{length-little_endian}
use Rattle.format.specs.Decoding.{bytes_at}
use Rattle.format.specs.Layout.{dword}
use Rattle.format.specs.Writing.{overwritten}
use lib.ListN.{length-append, length-take, length-drop}
use native.Mathlib.Omega.{arith}
use Prim.Native.Nat.{◌+◌, ◌-◌, ◌≤◌}
use mathlib.Core.List.{◌++◌}
use mathlib.Core.Path.{ap, ◌∙◌}
use Rattle.merge_write.proofs.put_head.Goals as goal
use Rattle.merge_write.proofs.put_head.Goals.{After-date_at-at}

fits : (c : After-date_at-at) → c.date_at-at.result + 4 ≤ c.args.end
fits c = omega (arith, date-inside c.args.file.now c.args.part c.requires.0 c.date_at-at.result c.date_at-at.ensures, c.requires.1)

pub copy-requires : goal.copy-requires
copy-requires c = rw c.bytes_at.ensures (simp length-take (omega (arith, fits (goal.at.copy-requires c).After-date_at-at, c.requires.2)))

pub put_dword-requires : goal.put_dword-requires
put_dword-requires c = simp (length-take, length-drop) (omega (arith, fits (goal.at.put_dword-requires c).After-date_at-at, c.requires.2))

pub overflow_sub-left : goal.overflow_sub-left
overflow_sub-left c = let long = fits (goal.at.overflow_sub-left c).After-date_at-at in search rules

pub slice_bounds-copy-count : goal.slice_bounds-copy-count
slice_bounds-copy-count c = let long = fits (goal.at.slice_bounds-copy-count c).After-date_at-at in search rules

pub slice_bounds-copy-start : goal.slice_bounds-copy-start
slice_bounds-copy-start c = let long = fits (goal.at.slice_bounds-copy-start c).After-date_at-at in search rules

pub returns : goal.returns
returns c =
    let a = c.args in
    let s = a.file.now in
    let at = c.date_at-at.result in
    let place = c.date_at-at.ensures in
    let front = bytes_at s 0 at in
    let back = bytes_at s (at + 4) (a.end - (at + 4)) in
    let Front-length = length_front s a.part c.requires.0 at place in
    let first = rw c.bytes_at.ensures at c.copy.ensures in
    let dated = after front (dword a.date) _ _ _ _ Front-length first c.put_dword.ensures in
    let last = rw c.bytes_at-2.ensures at c.copy-2.ensures in
    let begun = length-append front (dword a.date) in
    let all = after (front ++ dword a.date) back _ _ _ _ (omega (arith, begun, length-little_endian 4 a.date, Front-length)) dated last in
    all ∙ ap (λ l. overwritten l a.out.now) (head-pieces s a.part c.requires.0 at place a.date a.end c.requires.1)
