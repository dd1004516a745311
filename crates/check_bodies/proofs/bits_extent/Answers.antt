-- The bits are read, then their count is checked; the laws of Extents give the rest.
use mathlib.Core.Path.{refl}
use native.Mathlib.Omega.{arith}
use Rattle.write_items.proofs.There.{is-there}
use Rattle.check_bodies.specs.Extents.{too_long}
use Rattle.check_bodies.proofs.Extents.{absent-extends, plain-extends}
use Rattle.check_bodies.proofs.Places.{got-ends}
use Rattle.check_bodies.proofs.bits_extent.Goals as goal

pub returns-in_err-read_bits : goal.returns-in_err-read_bits
returns-in_err-read_bits c = absent-extends _ _ c.from_residual.ensures.1 c.in_err-read_bits.ensures.result_value

pub returns-then-parts-gt-WORD_MOST : goal.returns-then-parts-gt-WORD_MOST
returns-then-parts-gt-WORD_MOST c = too_long (is-there (got-ends c.in_ok-read_bits.ensures.result_value)) (λ f. omega arith)

pub returns : goal.returns
returns c = plain-extends _ (is-there (got-ends c.in_ok-read_bits.ensures.result_value)) (omega arith) refl (omega arith)
