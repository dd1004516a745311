-- Each answer follows by a law of Answers from the hash that is there: `ready`.
use Prim.Native.Nat.{◌+◌}
use mathlib.Core.Path.{sym}
use mathlib.Core.List.{◌++◌}
use lib.ListN.{length}
use Rattle.format.specs.Messages.{hash_type}
use Rattle.format.specs.Layout.{byte, encode_name}
use Rattle.format.specs.Rules.{ValidHash}
use Rattle.format.specs.RoundTrip.{IsThere}
use Rattle.wire.specs.WireAnswers.{hash_at}
use Rattle.wire.proofs.Replies.{slice-bytes}
use Rattle.write_items.specs.There.{hash_there}
use Rattle.write_items.specs.Item.{WritesTag, tag_of}
use Rattle.write_items.specs.Numbers.{spec_tag_number}
use Rattle.write_items.proofs.There.{ends-got, ends-refused, is-there, valid-hash}
use Rattle.write_items.proofs.Answers.{Ready, faulty, item-missing, roomless, written}
use Rattle.write_items.proofs.Pieces.{tag_fits}
use Rattle.write_items.proofs.Item.{hash-ready}
use Rattle.write_items.proofs.items.write_hash_tag.Goals as goal
use Rattle.write_items.proofs.items.write_hash_tag.Goals.{In_ok-hash}

here : (c : In_ok-hash) → IsThere (hash_there c.args.src.now c.args.at)
here c = is-there (sym (ends-got c.in_ok-hash.ensures))

whole : (c : In_ok-hash) → ValidHash (hash_at c.args.src.now c.args.at)
whole c = valid-hash c.args.src.now (slice-bytes c.args.src.now c.type_inv.src) c.args.at (here c)

ready : (c : In_ok-hash) → let name = c.args.name.now in let hash = hash_at c.args.src.now c.args.at in
    Ready (WritesTag (hash_there c.args.src.now c.args.at) (tag_of name hash_type hash)) (spec_tag_number (length name) 0) (byte 1 ++ (encode_name name ++ hash)) (19 + length name)
ready c = hash-ready c.args.name.now (slice-bytes c.args.name.now c.type_inv.name) (hash_at c.args.src.now c.args.at) (here c) (whole c)

pub returns-in_err-hash : goal.returns-in_err-hash
returns-in_err-hash c = item-missing _ _ c.from_residual.ensures.1 (ends-refused c.in_err-hash.ensures)

pub returns-in_err-check_tag : goal.returns-in_err-check_tag
returns-in_err-check_tag c = faulty (ready (goal.at.returns-in_err-check_tag c).In_ok-hash) _ _ c.from_residual-in_err-check_tag.ensures.1 c.in_err-check_tag.ensures

pub returns-then-out-name : goal.returns-then-out-name
returns-then-out-name c = roomless (ready (goal.at.returns-then-out-name c).In_ok-hash) c.in_ok-check_tag.ensures c.if-out-name.true

pub put_hash_tag-requires : goal.put_hash_tag-requires
put_hash_tag-requires c =
    let fit = tag_fits (length c.args.name.now) 0 c.in_ok-check_tag.ensures in
    (fit.0, rw c.bytes_at-hash.ensures (whole (goal.at.put_hash_tag-requires c).In_ok-hash).0, c.if-out-name.false)

pub returns : goal.returns
returns c =
    written (ready (goal.at.returns c).In_ok-hash) c.in_ok-check_tag.ensures c.if-out-name.false (rw c.bytes_at-hash.ensures at c.put_hash_tag.ensures)
