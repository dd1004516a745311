-- Each answer follows by a law of MetEntries from the length of the tags that was read.
use native.Mathlib.Omega.{arith}
use Rattle.write_met.specs.MetEntries.{spec_write_server_entry}
use Rattle.write_met.proofs.MetEntries.{entry-missing, server-roomless, server-written}
use Rattle.write_met.proofs.write_server_entry.Goals as goal

pub returns-in_err-tags_len : goal.returns-in_err-tags_len
unfolding spec_write_server_entry
returns-in_err-tags_len c = entry-missing _ _ _ _ c.from_residual.ensures.1 c.in_err-tags_len.ensures

pub returns-then-out-lt10 : goal.returns-then-out-lt10
returns-then-out-lt10 c = server-roomless c.args.src.now c.type_inv.src c.args.server _ c.in_ok-tags_len.ensures _ (omega (arith, c.if-out-lt10.true))

pub returns-then-out-tags_len : goal.returns-then-out-tags_len
returns-then-out-tags_len c =
    server-roomless c.args.src.now c.type_inv.src c.args.server _ c.in_ok-tags_len.ensures _ (omega (arith, c.if-out-tags_len.true, c.if-out-lt10.false))

pub returns : goal.returns
returns c =
    server-written c.args.src.now c.type_inv.src c.args.server _ c.in_ok-tags_len.ensures _ (omega (arith, c.if-out-tags_len.false, c.if-out-lt10.false)) c.put_server_entry.ensures
