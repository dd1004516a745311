-- A count and the addresses after it, by the law of such lists.
use mathlib.Core.Path.{refl}
use Rattle.format.specs.Order.{decode_counted, decode_byte}
use Rattle.format.proofs.There.{byte-ends}
use Rattle.format.proofs.Items.{codec-address}
use Rattle.wire.proofs.Inside.{counted-inside}
use Rattle.wire.proofs.Steps.{propagated}
use Rattle.records.proofs.read_addresses.Goals as goal

pub returns-in_err-count-clause-meaning : goal.returns-in_err-count-clause-meaning
unfolding decode_counted
returns-in_err-count-clause-meaning c = rw ((propagated _ c.from_residual.ensures.1), ← c.in_err-count.ensures) refl

pub returns-clause-meaning : goal.returns-clause-meaning
returns-clause-meaning c =
    (counted-inside codec-address _ c.type_inv.s decode_byte _ _ (byte-ends _ _) c.in_ok-count.ensures c.addresses_from.result (c.addresses_from.ensures.meaning, c.addresses_from.ensures.placed)).0

pub returns-clause-placed : goal.returns-clause-placed
returns-clause-placed c =
    (counted-inside codec-address _ c.type_inv.s decode_byte _ _ (byte-ends _ _) c.in_ok-count.ensures c.addresses_from.result (c.addresses_from.ensures.meaning, c.addresses_from.ensures.placed)).1
