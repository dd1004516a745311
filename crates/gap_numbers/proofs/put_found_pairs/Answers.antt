-- The loop: the numbers of the first `filled` gaps are put.
use mathlib.Core.Path.{refl}
use Rattle.part_tags.specs.Pairs.{first_gaps}
use Rattle.part_tags.proofs.GapTags.{inside-at}
use Rattle.gap_numbers.specs.Numbers.{pair_numbers}
use Rattle.gap_numbers.proofs.Found.{found-next}
use Rattle.gap_numbers.proofs.put_found_pairs.Goals as goal

pub loop-filled-init : goal.loop-filled-init
unfolding first_gaps pair_numbers
loop-filled-init c = refl

pub gap_at-gap-requires : goal.gap_at-gap-requires
gap_at-gap-requires c = inside-at c.args.s.now c.args.count c.loop-filled.filled c.args.starts.now c.requires.1 c.loop-filled-test.true

pub loop-filled-preserved : goal.loop-filled-preserved
loop-filled-preserved c =
    let a = c.args in
    found-next a.s.now a.starts.now a.out.now c.loop-filled.filled c.gap_at-gap.ensures c.loop-filled.invariant c.put_pair.ensures
