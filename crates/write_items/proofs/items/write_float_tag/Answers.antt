-- write_number_tag promises the write that it works out; by `as-tried` it is the one that is owed.
use native.Mathlib.Omega.{arith}
use Rattle.wire.proofs.Replies.{slice-bytes}
use Rattle.write_items.proofs.Answers.{as-tried}
use Rattle.write_items.proofs.Item.{float-ready}
use Rattle.write_items.proofs.items.write_float_tag.Goals as goal

pub returns : goal.returns
returns c =
    let name = c.args.name.now in
    as-tried (float-ready name (slice-bytes name c.type_inv.name) c.args.bits (omega (arith, c.well_formed))) c.write_number_tag.ensures
