use mathlib.Core.Path.{◌∙◌}
use Rattle.gap_numbers.proofs.Found.{found-record}
use Rattle.gap_numbers.proofs.put_found.Goals as goal

pub returns : goal.returns
returns c =
    let a = c.args in
    c.clear.ensures
    ∙ found-record a.s.now a.starts.now a.out.now a.count a.size c.requires.1 c.put_pair.ensures c.put_found_pairs.ensures
