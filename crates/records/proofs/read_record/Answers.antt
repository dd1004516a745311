-- A hash, a client, a port and tags: each is named once it is read, and the returns after it rewrite by that.
use mathlib.Core.Path.{◌≡◌, refl, sym}
use Rattle.format.specs.Order.{decode_record, decode_dword, decode_hash, decode_word}
use Rattle.format.specs.Decoding.{got}
use Rattle.wire.proofs.Inside.{hash-inside}
use Rattle.wire.specs.WireAnswers.{hash_at}
use Rattle.wire.proofs.Steps.{propagated}
use Rattle.records.proofs.read_record.Goals as goal
use Rattle.records.proofs.read_record.Goals.{In_ok-hash, In_ok-client, In_ok-port}

hash-read : (c : In_ok-hash) → let start = c.args in
    decode_hash start.s.now start.c.at ≡ got (hash_at start.s.now c.in_ok-hash.hash) c.in_ok-hash.after_hash.at
hash-read c = rw (← c.in_ok-hash.ensures) refl

client-read : (c : In_ok-client) → decode_dword c.args.s.now c.in_ok-hash.after_hash.at ≡ got c.in_ok-client.client c.in_ok-client.after_client.at
client-read c = rw (← c.in_ok-client.ensures) refl

port-read : (c : In_ok-port) → decode_word c.args.s.now c.in_ok-client.after_client.at ≡ got c.in_ok-port.port c.in_ok-port.after_port.at
port-read c = rw (← c.in_ok-port.ensures) refl

pub returns-in_err-hash-clause-meaning : goal.returns-in_err-hash-clause-meaning
unfolding decode_record
returns-in_err-hash-clause-meaning c = rw ((propagated _ c.from_residual.ensures.1), ← c.in_err-hash.ensures) refl

pub returns-in_err-client-clause-meaning : goal.returns-in_err-client-clause-meaning
unfolding decode_record
returns-in_err-client-clause-meaning c = rw ((propagated _ c.from_residual-in_err-client.ensures.1), (hash-read (goal.at.returns-in_err-client-clause-meaning c).In_ok-hash), ← c.in_err-client.ensures) refl

pub returns-in_err-port-clause-meaning : goal.returns-in_err-port-clause-meaning
unfolding decode_record
returns-in_err-port-clause-meaning c = rw ((propagated _ c.from_residual-in_err-port.ensures.1), (hash-read (goal.at.returns-in_err-port-clause-meaning c).In_ok-hash), (client-read (goal.at.returns-in_err-port-clause-meaning c).In_ok-client), ← c.in_err-port.ensures) refl

pub returns-in_err-tags-clause-meaning : goal.returns-in_err-tags-clause-meaning
unfolding decode_record
returns-in_err-tags-clause-meaning c = rw ((propagated _ c.from_residual-in_err-tags.ensures.1), (hash-read (goal.at.returns-in_err-tags-clause-meaning c).In_ok-hash), (client-read (goal.at.returns-in_err-tags-clause-meaning c).In_ok-client), (port-read (goal.at.returns-in_err-tags-clause-meaning c).In_ok-port), ← c.in_err-tags.ensures.result_value) refl

pub returns-clause-meaning : goal.returns-clause-meaning
unfolding decode_record
returns-clause-meaning c =
    rw ((hash-read (goal.at.returns-clause-meaning c).In_ok-hash), (client-read (goal.at.returns-clause-meaning c).In_ok-client), (port-read (goal.at.returns-clause-meaning c).In_ok-port), ← c.in_ok-tags.ensures.result_value) refl

pub returns-clause-placed : goal.returns-clause-placed
unfolding decode_record
returns-clause-placed c =
    (hash-inside _ _ _ (sym (hash-read (goal.at.returns-clause-placed c).In_ok-hash)), c.in_ok-tags.ensures.placed)
