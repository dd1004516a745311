-- What was read is written back: a place that a reader returns is there for the writers, and a message that lies at such places of some bytes,
-- and is what these bytes say, is written as these bytes.
use Prim.Native.Nat.{ℕ, ◌≤◌}
use mathlib.Core.Path.{◌≡◌, refl, subst}
use mathlib.Core.List.{List}
use lib.ListN.{length}
use borrow.Author.Tests.{le-leb}
use Rattle.format.specs.Messages as messages
use Rattle.format.specs.Messages.{Kind, Message}
use Rattle.format.specs.Layout.{encode}
use Rattle.format.specs.Rules.{Valid}
use Rattle.format.specs.Decoding.{Decoder, Outcome, decode_run, ends, got, refused}
use Rattle.format.specs.Order.{decode_hash, decode_query}
use Rattle.format.specs.Writing.{Written, overwritten, refuses, tries}
use Rattle.format.specs.RoundTrip.{IsThere, RoundTrip, WritesAt, absent, present}
use Rattle.format.proofs.Differ.{differ}
use Rattle.format.proofs.There.{run-there}
use Rattle.wire.specs.declared.Items.{Items}
use Rattle.wire.specs.declared.Place.{Place}
use Rattle.wire.specs.WireAnswers.{HashInside, Inside, ItemsInside, PlaceInside}
use Rattle.query.specs.declared.Query.{Query}
use Rattle.query.specs.Nodes.{depths}
use Rattle.query.specs.QueryAnswers.{QueryPlaced}
use Rattle.write_items.specs.There.{both_there, hash_there, items_there, place_there}
use Rattle.write_items.proofs.There.{is-there}

module _ (s : List ℕ) where
  pub run-here : (at n : ℕ) → Inside s at n → IsThere (ends (decode_run n s at))
  unfolding ends
  run-here at n h = rw (← run-there s at n h) tt

  pub hash-here : (at : ℕ) → HashInside s at → IsThere (hash_there s at)
  unfolding decode_hash
  hash-here at h = run-here at 16 h

  pub place_here : (p : Place) → PlaceInside s p → IsThere (place_there s p)
  place_here p h = run-here p.at p.len h

  pub items-here : {A : Type 0} (d : Decoder A) (l : Items) → ItemsInside d s l → IsThere (items_there d s l)
  items-here d l h = is-there h.0

  pub query-here : (q : Query) → QueryPlaced s q → IsThere (ends (decode_query s q.at))
  unfolding ends depths
  query-here q h = go (decode_query s q.at) h
    where
      go : (o : Outcome messages.Query) → depths o ≡ got q.depth q.end → IsThere (ends o)
      go (refused f) e = differ cc
      go (got m next) e = tt

pub both-here : (a b : Outcome (Unit {0})) → IsThere a → IsThere b → IsThere (both_there a b)
both-here (refused f) b h k = absurd h
both-here (got u next) b h k = k

-- The law over the kinds. A reader promises the third and fourth hypothesis, a writer the last two.
module _ (k : Kind) (there : Outcome (Unit {0})) (m : Message k) (s output : List ℕ) (here : IsThere there) (read : (s ≡ encode k m) × Valid k m) (room : length s ≤ length output) where
  pub written_back : {w : Written} → WritesAt k there m output w → RoundTrip k there m output w →
      w ≡ record { number = 0; length = length s; output = overwritten s output }
  written_back (absent f e) round = absurd (subst IsThere e here)
  written_back (present next e (refuses n j f)) round = absurd (f (round.exact.1 (here, (read.1, rw (← read.0) room))))
  written_back (present next e (tries j)) round = rw (← read.0, le-leb (length s) (length output) room) refl
