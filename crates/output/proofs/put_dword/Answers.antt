-- The library's bytes of a DWORD are those of the layout.
use native.Mathlib.Omega.{arith}
use Rattle.output.proofs.Laws.{dword-bytes, stores}
use Rattle.output.proofs.put_dword.Goals as goal

pub returns : goal.returns
returns c = rw c.to_le_bytes-bytes.ensures (stores _ (dword-bytes _) (omega arith))
