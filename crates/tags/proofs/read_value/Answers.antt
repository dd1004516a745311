-- A reader for each type: what the type was told as, and what its reader says.
use mathlib.Core.Path.{refl}
use Rattle.format.proofs.There.{value-is}
use Rattle.wire.proofs.Inside.{hash-inside}
use Rattle.wire.proofs.Steps.{propagated}
use Rattle.tags.proofs.read_value.Goals as goal

pub returns-in_err-at-in-Hash-clause-result_value : goal.returns-in_err-at-in-Hash-clause-result_value
returns-in_err-at-in-Hash-clause-result_value c = rw ((propagated _ c.from_residual.ensures.1), c.in-Hash.is, value-is, ← c.in_err-at-in-Hash.ensures) refl

pub returns-in_err-text-in-Text-clause-result_value : goal.returns-in_err-text-in-Text-clause-result_value
returns-in_err-text-in-Text-clause-result_value c = rw ((propagated _ c.from_residual-in_err-text-in-Text.ensures.1), c.in-Text.is, value-is, ← c.in_err-text-in-Text.ensures.result_value) refl

pub returns-in_err-value-in-Dword-clause-result_value : goal.returns-in_err-value-in-Dword-clause-result_value
returns-in_err-value-in-Dword-clause-result_value c = rw ((propagated _ c.from_residual-in_err-value-in-Dword.ensures.1), c.in-Dword.is, value-is, ← c.in_err-value-in-Dword.ensures) refl

pub returns-in_err-bits-in-Float-clause-result_value : goal.returns-in_err-bits-in-Float-clause-result_value
returns-in_err-bits-in-Float-clause-result_value c = rw ((propagated _ c.from_residual-in_err-bits-in-Float.ensures.1), c.in-Float.is, value-is, ← c.in_err-bits-in-Float.ensures) refl

pub returns-in_ok-at-in-Hash-clause-result_value : goal.returns-in_ok-at-in-Hash-clause-result_value
returns-in_ok-at-in-Hash-clause-result_value c = rw (c.in-Hash.is, value-is, ← c.in_ok-at-in-Hash.ensures) refl

pub returns-in_ok-at-in-Hash-clause-inside : goal.returns-in_ok-at-in-Hash-clause-inside
returns-in_ok-at-in-Hash-clause-inside c = hash-inside _ _ _ c.in_ok-at-in-Hash.ensures

pub returns-in_ok-text-in-Text-clause-result_value : goal.returns-in_ok-text-in-Text-clause-result_value
returns-in_ok-text-in-Text-clause-result_value c = rw (c.in-Text.is, value-is, ← c.in_ok-text-in-Text.ensures.result_value) refl

pub returns-in_ok-value-in-Dword-clause-result_value : goal.returns-in_ok-value-in-Dword-clause-result_value
returns-in_ok-value-in-Dword-clause-result_value c = rw (c.in-Dword.is, value-is, ← c.in_ok-value-in-Dword.ensures) refl

pub returns-in_ok-bits-in-Float-clause-result_value : goal.returns-in_ok-bits-in-Float-clause-result_value
returns-in_ok-bits-in-Float-clause-result_value c = rw (c.in-Float.is, value-is, ← c.in_ok-bits-in-Float.ensures) refl
