-- A write of the format goes both ways.
use mathlib.Core.Path.{◌≡◌, refl, sym, ap, subst, ◌∙◌}
use mathlib.Core.Bool.{Bool, true, false}
use mathlib.Core.List.{List}
use Prim.Native.Nat.{ℕ, ◌≤◌}
use native.Mathlib.Omega.{arith}
use lib.ListN.{length, take, drop}
use lib.Seq.{take-append_seam}
use lib.Dec.{leb}
use borrow.Author.Tests.{le-leb, leb-true}
use Rattle.format.specs.Tables.{pick}
use Rattle.format.specs.Messages.{Kind, Message}
use Rattle.format.specs.Layout.{encode}
use Rattle.format.specs.Rules.{Bytes, Valid}
use Rattle.format.specs.Decoding.{Outcome, number}
use Rattle.format.specs.Writing.{Written, Writes, overwritten, refuses, tries, unwritten}
use Rattle.format.proofs.Writing.{judged-once, judged-valid, number-some, reads-writes, valid-judged, writes_reads}
use Rattle.format.specs.RoundTrip.{IsThere, RoundTrip, WritesAt, absent, present}

module _ (k : Kind) (m : Message k) (output : List ℕ) where
  abbrev bytes : List ℕ
  bytes = encode k m

  -- 10 is the only refusal of a message with no fault.
  abbrev room : Bool → Written
  room t = pick t (record { number = 0; length = length bytes; output = overwritten bytes output }) (unwritten 10 output)

  room-true : (t : Bool) → (room t).number ≡ 0 → t ≡ true
  room-true true z = refl
  room-true false z = absurd (omega arith)

  wrote : (t : Bool) → (room t).number ≡ 0 → take (room t).length (room t).output ≡ bytes
  wrote true z = take-append_seam bytes (drop (length bytes) output)
  wrote false z = absurd (omega arith)

  written-bytes : {w : Written} → Writes k m output w → w.number ≡ 0 → take w.length w.output ≡ bytes
  written-bytes (refuses n j f) z = absurd (f z)
  written-bytes (tries j) z = wrote (leb (length bytes) (length output)) z

  pub accepted-valid : Bytes bytes → {w : Written} → Writes k m output w → w.number ≡ 0 → Valid k m × (length bytes ≤ length output)
  accepted-valid hb (refuses n j f) z = absurd (f z)
  accepted-valid hb (tries j) z =
      ((judged-valid k m hb).0 j, leb-true _ _ (room-true (leb (length bytes) (length output)) z))

  pub valid-accepted : {w : Written} → Writes k m output w → Valid k m × (length bytes ≤ length output) → w.number ≡ 0
  valid-accepted (refuses n j f) h = absurd (f (judged-once k m j (valid-judged k m h.0)))
  valid-accepted (tries j) h = ap (λ t. (room t).number) (le-leb _ _ h.1)

  module _ (there : Outcome (Unit {0})) (hb : IsThere there → Bytes bytes) where
    pub round_trip : {w : Written} → WritesAt k there m output w → RoundTrip k there m output w
    round_trip (absent f e) =
        record {
          exact = (λ z. absurd (number-some f.rule z), λ h. absurd (subst IsThere e h.0));
          reads = λ z. absurd (number-some f.rule z);
          again = λ s b d z. absurd (number-some f.rule z);
        }
    round_trip (present next e w) =
        let here : IsThere there = subst IsThere (sym e) tt in
        record {
          exact = (λ z. (here, accepted-valid (hb here) w z), λ h. valid-accepted w h.1);
          reads = writes_reads k m output w;
          again = λ s b d z. written-bytes w z ∙ reads-writes k m s b d;
        }
