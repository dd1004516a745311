use native.Mathlib.Omega.{arith}
use Rattle.find.proofs.Moving.{stands-occurs}
use Rattle.find.proofs.search_each.Goals as goal

pub returns-then-end-lt-BLOCK : goal.returns-then-end-lt-BLOCK
returns-then-end-lt-BLOCK c = stands-occurs _ _ _ _ (omega arith) c.search_from.ensures
