-- A known.met and a server.met that were read are written back as their bytes: from the contracts of reader and writer, and no other fact.
use Prim.Native.Nat.{ℕ, ◌≤◌}
use mathlib.Core.Path.{◌≡◌, refl}
use mathlib.Core.Logic.{◌↔◌}
use mathlib.Core.List.{List}
use lib.ListN.{length}
use Rattle.format.specs.Messages as messages
use Rattle.format.specs.Messages.{known_met, server_met}
use Rattle.format.specs.Layout.{encode}
use Rattle.format.specs.Rules.{Valid}
use Rattle.format.specs.Decoding.{message, reply}
use Rattle.format.specs.Order.{decode_hash, decode_tag}
use Rattle.format.specs.MetOrder.{decode, decode_file_entry, decode_server_entry}
use Rattle.format.specs.Writing.{overwritten}
use Rattle.format.specs.RoundTrip.{IsThere, RoundTrip, WritesAt}
use Rattle.met.specs.declared.FileEntry.{FileEntry}
use Rattle.met.specs.declared.KnownMet.{KnownMet}
use Rattle.met.specs.declared.ServerMet.{ServerMet}
use Rattle.met.specs.MetAnswers.{FileEntryPlaced, KnownAnswerPlaced, ServerAnswerPlaced, known_met_in, known_reply, server_met_in, server_reply}
use Rattle.output.specs.declared.Refusal.{Refusal}
use Rattle.output.specs.WriteAnswers.{answered}
use Rattle.write_items.specs.There.{both_there, hash_there, items_there, place_there}
use Rattle.write_items.proofs.Back.{both-here, hash-here, items-here, place_here, written_back}
use Rattle.write_met.specs.MetWrites.{file_entry_there, known_there, server_there}
use Rattle.std.specs.Prelude.{Ok, Result}
use Rattle.wire.specs.declared.Rule.{Rule}

pub entry_here : (s : List ℕ) (e : FileEntry) → FileEntryPlaced s e → IsThere (file_entry_there s e)
entry_here s e h =
    let parts = items_there decode_hash s e.parts in
    let tags = items_there decode_tag s e.tags in
    both-here (hash_there s e.hash) (both_there parts tags) (hash-here s e.hash h.0)
    (both-here parts tags (items-here s decode_hash e.parts h.1.0) (items-here s decode_tag e.tags h.1.1))

module _ (s : List ℕ) (r : Result KnownMet Rule)
    (meaning : known_reply s r ≡ reply (decode known_met s))
    (placed : KnownAnswerPlaced s r)
    (exact : (m : messages.KnownMet) → (known_reply s r ≡ message m) ↔ ((s ≡ encode known_met m) × Valid known_met m))
    (m : KnownMet) (accepted : r ≡ Ok m) where
  pub known-here : IsThere (known_there s m)
  known-here = items-here s decode_file_entry m.entries (rw accepted at placed)

  pub known-back : (output out : List ℕ) (a : Result ℕ Refusal) →
      WritesAt known_met (known_there s m) (known_met_in s m) output (answered a out) →
      RoundTrip known_met (known_there s m) (known_met_in s m) output (answered a out) →
      length s ≤ length output → answered a out ≡ record { number = 0; length = length s; output = overwritten s output }
  known-back output out a writes round room =
      written_back known_met (known_there s m) (known_met_in s m) s output known-here ((exact (known_met_in s m)).0 (rw accepted refl)) room writes round

module _ (s : List ℕ) (r : Result ServerMet Rule)
    (meaning : server_reply s r ≡ reply (decode server_met s))
    (placed : ServerAnswerPlaced s r)
    (exact : (m : messages.ServerMet) → (server_reply s r ≡ message m) ↔ ((s ≡ encode server_met m) × Valid server_met m))
    (m : ServerMet) (accepted : r ≡ Ok m) where
  pub server-here : IsThere (server_there s m)
  server-here =
      let h = rw accepted at placed in
      both-here (items_there decode_server_entry s m.entries) (place_there s m.tail)
      (items-here s decode_server_entry m.entries h.0) (place_here s m.tail h.1)

  pub server-back : (output out : List ℕ) (a : Result ℕ Refusal) →
      WritesAt server_met (server_there s m) (server_met_in s m) output (answered a out) →
      RoundTrip server_met (server_there s m) (server_met_in s m) output (answered a out) →
      length s ≤ length output → answered a out ≡ record { number = 0; length = length s; output = overwritten s output }
  server-back output out a writes round room =
      written_back server_met (server_there s m) (server_met_in s m) s output server-here ((exact (server_met_in s m)).0 (rw accepted refl)) room writes round
