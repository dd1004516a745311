-- Each file's numbers hold its gaps (`NumbersIn` of Numbers), and are of one size.
use Rattle.merge.proofs.Numbers.{NumbersIn, merged-left, numbers-found, one_size}
use lib.ListN.{replicate}
use Rattle.merge.specs.Choices.{numbers_left}
use Rattle.format.specs.Writing.{overwritten}
use mathlib.Core.Path.{ap₂, ◌∙◌}
use Rattle.merge.proofs.merge_numbers.Goals as goal
use Rattle.merge.proofs.merge_numbers.Goals.{After-put_found-3}

opened-in : (c : After-put_found-3) → NumbersIn c.args.opened c.put_found.new.out
opened-in c = numbers-found _ _ (replicate 130 0) c.requires.0 c.put_found.ensures

first_in : (c : After-put_found-3) → NumbersIn c.args.first c.put_found-2.new.out
first_in c = numbers-found _ _ (replicate 130 0) c.requires.1 c.put_found-2.ensures

second-in : (c : After-put_found-3) → NumbersIn c.args.second c.put_found-3.new.out
second-in c = numbers-found _ _ (replicate 130 0) c.requires.2 c.put_found-3.ensures

pub merge_gaps-requires : goal.merge_gaps-requires
merge_gaps-requires c = (one_size _ _ _ _ _ _ (opened-in (goal.at.merge_gaps-requires c).After-put_found-3) (first_in (goal.at.merge_gaps-requires c).After-put_found-3) (second-in (goal.at.merge_gaps-requires c).After-put_found-3) c.requires.0.reads c.requires.3, c.requires.4)

pub returns : goal.returns
returns c =
    let left = merged-left _ _ _ _ _ _ (opened-in (goal.at.returns c).After-put_found-3) (first_in (goal.at.returns c).After-put_found-3) (second-in (goal.at.returns c).After-put_found-3) in
    c.merge_gaps.ensures ∙ ap₂ (λ size gaps. overwritten (numbers_left size gaps) c.args.out.now) (opened-in (goal.at.returns c).After-put_found-3).size left
