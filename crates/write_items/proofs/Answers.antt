-- The answer to a write, once the number and the finished bytes are known: one law for messages and for single items.
use Prim.Native.Nat.{ℕ, ◌≤◌, ◌<◌}
use mathlib.Core.Path.{◌≡◌, refl, sym, subst}
use mathlib.Core.Bool.{Bool, true, false}
use mathlib.Core.List.{List}
use native.Mathlib.Omega.{arith}
use lib.ListN.{length}
use lib.Dec.{eqb}
use borrow.Author.Tests.{eqb-false, eqb-true, le-leb, lt-leb, ne_eqb}
use Rattle.format.specs.Tables.{pick}
use Rattle.format.specs.Messages.{Kind, Message}
use Rattle.format.specs.Layout as layout
use Rattle.format.specs.Rules.{Bytes}
use Rattle.format.specs.Decoding.{Decoder, Fault, Outcome, got, number, refused}
use Rattle.format.specs.Writing.{Judged, Written, overwritten, refuses, tries, unwritten, written_into}
use Rattle.format.specs.RoundTrip.{IsThere, RoundTrip, WritesAt, absent, present}
use Rattle.format.proofs.RoundTrip.{round_trip}
use Rattle.std.specs.Prelude.{IsErrAnd, Ok, Result}
use Rattle.wire.specs.declared.Fault as wire
use Rattle.wire.specs.WireAnswers.{fault_meaning}
use Rattle.wire.proofs.Steps.{propagated}
use Rattle.output.specs.declared.Refusal.{Refusal}
use Rattle.output.specs.WriteAnswers.{answered, refusal_number, refusal_of}
use Rattle.output.proofs.Refusals.{not-accepted, number-of-rule}
use Rattle.write_items.specs.Item as item
use Rattle.write_items.specs.Item.{ItemJudged, WritesItem}
use Rattle.write_items.specs.Numbers.{tried}

-- What is owed is `W`, `n` is the number that the checks before the one of the room give, and these are the finished bytes.
pub record Ready (W : List ℕ → Written → Type 0) (n : ℕ) (bytes : List ℕ) (size : ℕ) : Type 0 where
  pub refuses : (output : List ℕ) → (n ≡ 0 → ⊥) → W output (unwritten n output)
  pub tries : (output : List ℕ) → 0 ≡ n → W output (written_into bytes output)
  pub sized : length bytes ≡ size

module _ {W : List ℕ → Written → Type 0} {n : ℕ} {bytes : List ℕ} {size : ℕ} (r : Ready W n bytes size) {output : List ℕ} where
  -- `?` passes on what a check refuses.
  pub faulty : (refusal : Refusal) (answer : Result ℕ Refusal) → IsErrAnd answer (λ g. g ≡ refusal) → refusal_number refusal ≡ n → W output (answered answer output)
  faulty refusal answer passed e = rw (propagated answer passed, e) (r.refuses output (λ none. omega (arith, not-accepted refusal)))

  module _ (none : 0 ≡ n) where
    pub roomless : length output < size → W output (unwritten 10 output)
    roomless h = rw (lt-leb (length bytes) (length output) (rw r.sized h)) at (r.tries output none)

    -- what is known of `wrote` and `new` is what a function ensures that puts the bytes
    pub written : {new : List ℕ} {wrote : ℕ} → size ≤ length output → record { written : wrote ≡ size; output : new ≡ overwritten bytes output } →
        W output (answered (Ok wrote) new)
    written h put = rw (put.written, put.output, ← r.sized) (rw (le-leb (length bytes) (length output) (rw r.sized h)) at (r.tries output none))

  -- A function that promises the write that it works out serves every writer that owes W.
  pub as-tried : {w : Written} → w ≡ tried n bytes output → W output w
  as-tried e = rw e (go (eqb n 0) refl)
    where
      go : (t : Bool) → eqb n 0 ≡ t → W output (pick t (written_into bytes output) (unwritten n output))
      go true e = r.tries output (sym (eqb-true n 0 e))
      go false e = r.refuses output (eqb-false n 0 e)

pub tried-ready : (n : ℕ) (bytes : List ℕ) {size : ℕ} → length bytes ≡ size → Ready (λ output w. w ≡ tried n bytes output) n bytes size
tried-ready n bytes sized =
    record { refuses = λ output some. rw (ne_eqb n 0 some) refl; tries = λ output none. rw (← none) refl; sized = sized }

-- Both promises of a writer of messages.
abbrev pub Promised : (k : Kind) → Outcome (Unit {0}) → Message k → List ℕ → Written → Type 0
Promised k there m output w = record { writes : WritesAt k there m output w; round : RoundTrip k there m output w }

module _ {k : Kind} {there : Outcome (Unit {0})} {m : Message k} where
  pub promised : (IsThere there → Bytes (layout.encode k m)) → {output : List ℕ} {w : Written} → WritesAt k there m output w → Promised k there m output w
  promised bytes {output} w = record { writes = w; round = round_trip k m output there bytes w }

  -- Where a place is at fault no bytes are owed, since there is no message.
  pub gone : (output : List ℕ) {f : Fault} → refused f ≡ there → Promised k there m output (unwritten (number f.rule) output)
  gone output {f} e = promised (λ h. absurd (subst IsThere (sym e) h)) (absent f (sym e))

  -- `?` passes on the fault of a place.
  module _ {output : List ℕ} (f : wire.Fault) (answer : Result ℕ Refusal) (passed : IsErrAnd answer (λ g. g ≡ refusal_of f.rule)) (e : refused (fault_meaning f) ≡ there) where
    pub missing : WritesAt k there m output (answered answer output)
    missing = rw (propagated answer passed, number-of-rule f.rule) (absent (fault_meaning f) (sym e))

    pub missing-promised : Promised k there m output (answered answer output)
    missing-promised = rw (propagated answer passed, number-of-rule f.rule) (gone output e)

  pub writes-ready : {next n : ℕ} {bytes : List ℕ} {size : ℕ} → got tt next ≡ there → Judged k m n → bytes ≡ layout.encode k m → length bytes ≡ size →
      Ready (WritesAt k there m) n bytes size
  writes-ready {next} {n} here judged encoded sized =
      record {
        refuses = λ output some. present next (sym here) (refuses n judged some);
        tries = λ output none. rw encoded (present next (sym here) (tries (subst (Judged k m) (sym none) judged)));
        sized = sized;
      }

  pub message-ready : {next n : ℕ} {bytes : List ℕ} {size : ℕ} → got tt next ≡ there → Judged k m n → bytes ≡ layout.encode k m → Bytes bytes → length bytes ≡ size →
      Ready (Promised k there m) n bytes size
  message-ready here judged encoded bytes sized =
      let r = writes-ready here judged encoded sized in
      let hb = subst Bytes encoded bytes in
      record { refuses = λ output some. promised (λ _. hb) (r.refuses output some); tries = λ output none. promised (λ _. hb) (r.tries output none); sized = sized }

module _ {A : Type 0} {Fits : A → Type 0} {encode : A → List ℕ} {decode : Decoder A} {there : Outcome (Unit {0})} {a : A} where
  pub item-missing : {output : List ℕ} (f : wire.Fault) (answer : Result ℕ Refusal) → IsErrAnd answer (λ g. g ≡ refusal_of f.rule) → refused (fault_meaning f) ≡ there →
      WritesItem Fits encode decode there a output (answered answer output)
  item-missing f answer passed e = rw (propagated answer passed, number-of-rule f.rule) (item.absent (fault_meaning f) (sym e))

  pub item-ready : {n : ℕ} {bytes : List ℕ} {size : ℕ} → IsThere there → ItemJudged Fits encode decode a n → bytes ≡ encode a → length bytes ≡ size →
      Ready (WritesItem Fits encode decode there a) n bytes size
  item-ready {n} here judged encoded sized =
      record {
        refuses = λ output some. item.refuses here n judged some;
        tries = λ output none. rw encoded (item.tries here (subst (ItemJudged Fits encode decode a) (sym none) judged));
        sized = sized;
      }
