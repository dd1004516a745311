use Rattle.write_items.proofs.Puts.{regrouped}
use mathlib.Core.List.{append_assoc}
use native.Mathlib.Omega.{arith}
use Rattle.format.specs.Layout.{encode_address}
use Rattle.write_bodies.proofs.put_record.Goals as goal

pub returns : goal.returns
unfolding encode_address
returns c = regrouped (simp append_assoc) (omega arith) c.put_entry.ensures
