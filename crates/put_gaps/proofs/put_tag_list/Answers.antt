-- The count, the tags that stay and the pairs are written one after the other (`list-pieces` of Pieces).
use Rattle.put_gaps.proofs.Pieces.{list-pieces}
use Rattle.output.proofs.Laws.{after}
use Rattle.put_gaps.specs.Pieces.{plain_bytes, pairs_bytes}
use Rattle.gaps.specs.GapRecords.{gaps_of}
use Rattle.gap_numbers.specs.Numbers.{held}
use Rattle.tags.specs.TagAnswers.{tags_in}
use Rattle.format.proofs.Codec.{length-little_endian}
use Rattle.format.specs.Writing.{overwritten}
use Rattle.format.specs.PutGaps.{regapped}
use Prim.Native.Nat.{◌+◌}
use Rattle.format.specs.Layout.{dword}
use native.Mathlib.Omega.{arith}
use lib.ListN.{length, length-append}
use mathlib.Core.List.{◌++◌}
use mathlib.Core.Path.{◌≡◌, ap, ◌∙◌}
use Rattle.put_gaps.proofs.put_tag_list.Goals as goal

pub returns-clause-output : goal.returns-clause-output
returns-clause-output c =
    let a = c.args in
    let tags = tags_in a.s.now a.tags in
    let gaps = gaps_of (held a.gaps.now) in
    let count = length (regapped gaps tags) in
    let counted = rw c.requires.3 at c.put_dword.ensures in
    let first = after (dword count) (plain_bytes tags) _ _ _ 4 (length-little_endian 4 count) counted c.put_kept-kept.ensures.output in
    let place : length (dword count ++ plain_bytes tags) ≡ 4 + length (plain_bytes tags) = simp (length-append, length-little_endian) in
    let last = after (dword count ++ plain_bytes tags) (pairs_bytes 0 gaps) _ _ _ _ (omega (arith, place, c.put_kept-kept.ensures.written)) first c.put_pairs.ensures.output in
    last ∙ ap (λ l. overwritten l a.out.now) (list-pieces gaps tags)
