-- Where the parts before the tags are there, the entry ends where its tags do: `server-entry-ends` of Skips.
use native.Mathlib.Omega.{arith}
use Rattle.format.specs.Order.{decode_tags}
use Rattle.tags.proofs.Skips.{after-is-end}
use Rattle.met.proofs.Skips.{server-entry-ends}
use Rattle.met.proofs.server.server_entry_end.Goals as goal

pub returns : goal.returns
returns c =
    server-entry-ends c.args.s.now c.args.at (omega (arith, c.if-s-at.false, c.if-s-lt-BEFORE_TAGS.false))
    (after-is-end (decode_tags _ _) c.tag_list_end.ensures)
