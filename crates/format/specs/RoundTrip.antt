-- What the writers of whole messages owe. The message is given by its places in lent bytes, as the readers hand it out.
use Rattle.std.specs.Prelude.{◌≡◌, ◌↔◌, List, ℕ, ◌≤◌, length, take}
use Rattle.format.specs.Messages.{Kind, Message}
use Rattle.format.specs.Layout.{encode}
use Rattle.format.specs.Rules.{Bytes, Valid}
use Rattle.format.specs.Decoding.{Fault, Outcome, accepted, got, number, refused}
use Rattle.format.specs.MetOrder.{decode}
use Rattle.format.specs.Writing.{Written, Writes, unwritten}

-- `there` is the reading of the message's places. Where they do not hold what they should, there is no message, and the number is that of
-- their own reading, before all others; else it is a write of the format.
pub data WritesAt (k : Kind) (there : Outcome (Unit {0})) (m : Message k) (output : List ℕ) : Written → Type 0 where
  absent : (f : Fault) → there ≡ refused f → WritesAt k there m output (unwritten (number f.rule) output)
  present : {w : Written} (next : ℕ) → there ≡ got tt next → Writes k m output w → WritesAt k there m output w

abbrev pub IsThere : Outcome (Unit {0}) → Type 0
IsThere (refused f) = ⊥
IsThere (got u next) = Unit {0}

-- A message is written exactly when it is there, is valid, and has room. What was written is read as the message; and a message that was read
-- is written as the bytes that it was read from.
pub record RoundTrip (k : Kind) (there : Outcome (Unit {0})) (m : Message k) (output : List ℕ) (w : Written) : Type 0 where
  pub exact : (w.number ≡ 0) ↔ (IsThere there × (Valid k m × (length (encode k m) ≤ length output)))
  pub reads : w.number ≡ 0 → decode k (take w.length w.output) ≡ accepted m
  pub again : (s : List ℕ) → Bytes s → decode k s ≡ accepted m → w.number ≡ 0 → take w.length w.output ≡ s
