-- The hash, the tags and the blocks are read one after the other; the first fault decides.
use Prim.Native.Nat.{◌+◌}
use mathlib.Core.Path.{◌≡◌}
use Rattle.format.specs.Decoding.{got}
use Rattle.wire.proofs.Steps.{propagated}
use Rattle.write_items.specs.There.{hash_there}
use Rattle.write_items.proofs.There.{ends-refused, first-missing, then-there}
use Rattle.write_met.proofs.Lists.{hash-there}
use Rattle.write_part.proofs.part_e1.e1_lengths.Goals as goal
use Rattle.write_part.proofs.part_e1.e1_lengths.Goals.{In_ok-hash}

hash : (c : In_ok-hash) → let a = c.args in got tt (a.file.hash + 16) ≡ hash_there a.s.now a.file.hash
hash c = let a = c.args in hash-there a.s.now a.file.hash c.in_ok-hash.ensures

pub returns-in_err-hash : goal.returns-in_err-hash
returns-in_err-hash c = rw (propagated _ c.from_residual.ensures.1) (first-missing _ (ends-refused c.in_err-hash.ensures))

pub returns-in_err-tags_len : goal.returns-in_err-tags_len
returns-in_err-tags_len c =
    rw (propagated _ c.from_residual-in_err-tags_len.ensures.1) (then-there (hash (goal.at.returns-in_err-tags_len c).In_ok-hash) (first-missing _ c.in_err-tags_len.ensures))

pub returns-in_err-area : goal.returns-in_err-area
returns-in_err-area c =
    rw (propagated _ c.from_residual-in_err-area.ensures.1) (then-there (hash (goal.at.returns-in_err-area c).In_ok-hash) (then-there c.in_ok-tags_len.ensures c.in_err-area.ensures))

pub returns : goal.returns
returns c = (hash (goal.at.returns c).In_ok-hash, (c.in_ok-tags_len.ensures, c.in_ok-area.ensures))
