-- The parts are put one after the other: `then` of Puts.
use mathlib.Core.Path.{refl}
use lib.ListN.{length}
use Rattle.format.specs.Layout.{dword}
use Rattle.format.proofs.Codec.{length-little_endian}
use Rattle.write_items.proofs.Puts.{puts, then}
use Rattle.write_items.proofs.lists.put_list.Goals as goal

pub returns-clause-output : goal.returns-clause-output
returns-clause-output c =
    let a = c.args in
    let counted = puts (dword a.count) 4 (length-little_endian 4 a.count) c.put_dword.ensures in
    (then counted (puts a.items.now (length a.items.now) refl c.copy.ensures)).output
