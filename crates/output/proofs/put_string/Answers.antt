use Rattle.output.proofs.Laws.{after}
use Rattle.format.proofs.Codec.{length-little_endian}
use Rattle.format.specs.Layout.{word, encode_string}
use lib.ListN.{length}
use Rattle.output.proofs.put_string.Goals as goal

pub returns-clause-output : goal.returns-clause-output
unfolding encode_string
returns-clause-output c =
    let t = c.args.text.now in
    let counted = c.put_word.ensures in
    after (word (length t)) t _ _ _ 2 (length-little_endian 2 (length t)) counted c.copy.ensures
