use native.Mathlib.Omega.{arith}
use Rattle.check_bodies.proofs.Extents.{adds, after-extends, both-adds, both-extends}
use Rattle.check_bodies.proofs.entry_extent.Goals as goal

pub both-requires : goal.both-requires
both-requires c = both-adds c.hash_extent-hash_part.ensures c.tags_extent-tags_part.ensures (omega arith)

pub bytes_after-requires : goal.bytes_after-requires
bytes_after-requires c = rw c.both.ensures (adds 6 (both-extends c.hash_extent-hash_part.ensures c.tags_extent-tags_part.ensures) (omega arith))

pub returns : goal.returns
returns c = rw (c.bytes_after.ensures, c.both.ensures) (after-extends 6 (both-extends c.hash_extent-hash_part.ensures c.tags_extent-tags_part.ensures))
