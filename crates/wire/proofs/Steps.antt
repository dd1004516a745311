-- What `?` returns of an error is that error: a fault, or of a whole input its rule.
use Rattle.std.proofs.Common.{◌≡◌, ap}
use Rattle.std.specs.Prelude.{Result, IsErrAnd, Ok, Err}

pub propagated : {B E : Type 0} {e : E} (r : Result B E) → IsErrAnd r (λ g. g ≡ e) → r ≡ Err e
propagated (Ok b) h = absurd h
propagated (Err g) h = ap (λ e. Err e) h
