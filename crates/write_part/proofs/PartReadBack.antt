-- A part.met that was read is written back as its bytes: from the contracts of reader and writer, and no other fact.
use Prim.Native.Nat.{ℕ, ◌≤◌}
use mathlib.Core.Path.{◌≡◌, refl}
use mathlib.Core.Logic.{◌↔◌}
use mathlib.Core.List.{List}
use lib.ListN.{length}
use Rattle.format.specs.Messages as messages
use Rattle.format.specs.Messages.{part_met}
use Rattle.format.specs.Layout.{encode}
use Rattle.format.specs.Rules.{Valid}
use Rattle.format.specs.Decoding.{decode_run, message, reply}
use Rattle.format.specs.Order.{decode_hash, decode_tag}
use Rattle.format.specs.MetOrder.{decode}
use Rattle.format.specs.Writing.{overwritten}
use Rattle.format.specs.RoundTrip.{IsThere, RoundTrip, WritesAt}
use Rattle.met.specs.declared.HashBlocks.{HashBlocks}
use Rattle.met.specs.declared.PartMet.{PartMet}
use Rattle.met.specs.MetAnswers.{BlocksPlaced, PartAnswerPlaced, PartAnswerSized, PartMetPlaced, part_met_in, part_reply}
use Rattle.output.specs.declared.Refusal.{Refusal}
use Rattle.output.specs.WriteAnswers.{answered}
use Rattle.write_items.specs.There.{both_there, hash_there, items_there}
use Rattle.write_items.proofs.Back.{both-here, hash-here, items-here, written_back}
use Rattle.write_met.proofs.MetReadBack.{entry_here}
use Rattle.write_part.specs.PartWrites.{blocks_there, part_there}
use Rattle.std.specs.Prelude.{Ok, Result}
use Rattle.wire.specs.declared.Rule.{Rule}

blocks-here : (s : List ℕ) (b : HashBlocks) → BlocksPlaced s b → IsThere (blocks_there s b)
blocks-here s HashBlocks.Nothing h = tt
blocks-here s (HashBlocks.Parts l) h = items-here s decode_hash l h
blocks-here s (HashBlocks.Blocks k) h = items-here s (decode_run 8) k h
blocks-here s (HashBlocks.Both l k) h =
    both-here (items_there decode_hash s l) (items_there (decode_run 8) s k) (items-here s decode_hash l h.0) (items-here s (decode_run 8) k h.1)

file-here : (s : List ℕ) (m : PartMet) → PartMetPlaced s m → IsThere (part_there s m)
file-here s (PartMet.E0 e) h = entry_here s e h
file-here s (PartMet.E1 m) h =
    let tags = items_there decode_tag s m.tags in
    let blocks = blocks_there s m.blocks in
    both-here (hash_there s m.hash) (both_there tags blocks) (hash-here s m.hash h.0)
    (both-here tags blocks (items-here s decode_tag m.tags h.1.0) (blocks-here s m.blocks h.1.1))

module _ (s : List ℕ) (r : Result (PartMet × ℕ) Rule)
    (meaning : part_reply s r ≡ reply (decode part_met s))
    (placed : PartAnswerPlaced s r)
    (sized : PartAnswerSized s r)
    (exact : (m : messages.PartMet) → (part_reply s r ≡ message m) ↔ ((s ≡ encode part_met m) × Valid part_met m))
    (m : PartMet) (size : ℕ) (accepted : r ≡ Ok (m, size)) where
  pub part-here : IsThere (part_there s m)
  part-here = file-here s m (rw accepted at placed)

  pub part-back : (output out : List ℕ) (a : Result ℕ Refusal) →
      WritesAt part_met (part_there s m) (part_met_in s m) output (answered a out) →
      RoundTrip part_met (part_there s m) (part_met_in s m) output (answered a out) →
      length s ≤ length output → answered a out ≡ record { number = 0; length = length s; output = overwritten s output }
  part-back output out a writes round room =
      written_back part_met (part_there s m) (part_met_in s m) s output part-here ((exact (part_met_in s m)).0 (rw accepted refl)) room writes round
