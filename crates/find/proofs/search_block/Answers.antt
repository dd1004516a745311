-- Where no offset has the first and the last byte, the part stands at none.
use Rattle.find.proofs.Moving.{no-ends-stand, stands-no}
use Rattle.find.proofs.search_block.Goals as goal

pub returns-then-found-eq0 : goal.returns-then-found-eq0
returns-then-found-eq0 c =
    let part = c.args.part.now in
    let text = c.args.text.now in
    stands-no part text _ _ (no-ends-stand part text c.args.from 16 c.requires.0 (c.ends_in_block-found.ensures.0 c.if-found-eq0.true))
