-- The library's bytes of a WORD are those of the layout.
use native.Mathlib.Omega.{arith}
use Rattle.output.proofs.Laws.{word_bytes, stores}
use Rattle.output.proofs.put_word.Goals as goal

pub returns : goal.returns
returns c = rw c.to_le_bytes-bytes.ensures (stores _ (word_bytes _) (omega arith))
