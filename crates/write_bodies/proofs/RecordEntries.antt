-- Laws of entries that are written by themselves.
use Prim.Native.Nat.{ℕ, ◌≤◌, ◌<◌}
use mathlib.Core.Path.{◌≡◌, refl, subst}
use mathlib.Core.List.{List}
use native.Mathlib.Omega.{arith}
use lib.ListN.{length, length-append}
use borrow.Author.Tests.{le-leb, lt-leb}
use Rattle.format.specs.Messages.{Address}
use Rattle.format.specs.Layout.{encode_address}
use Rattle.format.specs.Rules.{Bytes, Dword}
use Rattle.format.specs.Decoding.{Outcome, got, refused}
use Rattle.format.specs.Order.{decode_address, decode_record, decode_tag}
use Rattle.format.specs.Writing.{ValuesFit, Written, overwritten, unwritten}
use Rattle.format.proofs.Codec.{length-little_endian}
use Rattle.format.proofs.Writing.{tags-fit}
use Rattle.std.specs.Prelude.{Result, Ok, Err, IsErrAnd}
use Rattle.wire.specs.declared.Items.{Items}
use Rattle.wire.specs.WireAnswers.{fault_meaning, items_in}
use Rattle.records.specs.declared.Record.{Record}
use Rattle.bodies.specs.declared.Body.{Body}
use Rattle.bodies.specs.BodyAnswers.{body_in}
use Rattle.wire.proofs.Steps.{propagated}
use Rattle.output.specs.declared.Refusal.{Refusal}
use Rattle.output.specs.WriteAnswers.{answered}
use Rattle.output.proofs.Refusals.{number-of-rule}
use Rattle.write_items.specs.There.{hash_there, items_there}
use Rattle.format.specs.RoundTrip.{IsThere}
use Rattle.write_items.specs.Writers.{write_there}
use Rattle.write_items.proofs.There.{there-at, both-last}
use Rattle.check_bodies.specs.declared.BodyCheck.{BodyCheck}
use Rattle.check_bodies.specs.Bodies.{BodyChecked, BodyEnds, body_there, bytes_of, record_there}
use Rattle.check_bodies.proofs.Extents.{records-fit}
use Rattle.check_bodies.proofs.Places.{records-listed, tags-listed}
use Rattle.write_items.specs.Puts.{Puts}
use Rattle.write_bodies.specs.RecordEntries.{WritesBody, absent, overflows, tries, spec_write_address, spec_write_addresses, spec_write_record, spec_write_records}

-- What a check that found nothing says.
pub record Fine (s : List ℕ) (b : Body) (c : BodyCheck) : Type 0 where
  pub there : IsThere (body_there s b)
  pub fit : ValuesFit (body_in s b).0 (body_in s b).1
  pub size : c.size ≡ length (bytes_of (body_in s b))
  pub ended : BodyEnds s b c.end

module _ {s : List ℕ} {b : Body} where
  refused-body : (r : Refusal) (output : List ℕ) → BodyChecked s b (Err r) → WritesBody s b output (answered (Err r) output)
  refused-body r output (BodyChecked.absent f e) = rw (number-of-rule f.rule) (absent (fault_meaning f) e)
  refused-body r output (BodyChecked.overflows t f) = overflows t f

  -- `?` passes on what the check refuses.
  pub passed-body : (r : Refusal) (answer : Result ℕ Refusal) (output : List ℕ) → IsErrAnd answer (λ g. g ≡ r) → BodyChecked s b (Err r) →
      WritesBody s b output (answered answer output)
  passed-body r answer output passed found = rw (propagated answer passed) (refused-body r output found)

  pub fine : {c : BodyCheck} → BodyChecked s b (Ok c) → Fine s b c
  fine (BodyChecked.sized size end rule t f n e r) = record { there = t; fit = f; size = n; ended = e }

  module _ {c : BodyCheck} (h : Fine s b c) (output : List ℕ) where
    pub roomless-body : length output < c.size → WritesBody s b output (unwritten 10 output)
    roomless-body r =
        let full = lt-leb (length (bytes_of (body_in s b))) (length output) (omega (arith, h.size)) in
        subst (WritesBody s b output) (rw full refl) (tries h.there h.fit)

    pub written-body : c.size ≤ length output → (r : ℕ) (new : List ℕ) → r ≡ length (bytes_of (body_in s b)) → new ≡ overwritten (bytes_of (body_in s b)) output →
        WritesBody s b output (record { number = 0; length = r; output = new })
    written-body room r new n o =
        let fits = le-leb (length (bytes_of (body_in s b))) (length output) (omega (arith, h.size)) in
        rw (n, o) (subst (WritesBody s b output) (rw fits refl) (tries h.there h.fit))

-- What is there is written.
there-writes : (o : Outcome (Unit {0})) (output : List ℕ) {w : Written} → IsThere o → w ≡ write_there o output w
there-writes (refused f) output t = absurd t
there-writes (got u next) output t = refl

module _ (s : List ℕ) (hb : Bytes s) (output : List ℕ) where
  pub record-writes : (r : Record) {w : Written} → Dword r.tags.count → WritesBody s (Body.Record r) output w → w ≡ spec_write_record s r output
  unfolding spec_write_record
  record-writes r few (absent f e) = rw e refl
  record-writes r few (overflows t f) =
      let o = items_there decode_tag s r.tags in
      let x = tags-listed s hb r.tags (there-at o (both-last (hash_there s r.hash) o t)).1 in
      absurd (f (tags-fit (items_in decode_tag s r.tags) (omega (arith, x.count), x.valid)))
  record-writes r few (tries t f) = there-writes (record_there s r) output t

  pub records-writes : (l : Items) {w : Written} → Dword l.count → WritesBody s (Body.Records l) output w → w ≡ spec_write_records s l output
  unfolding spec_write_records
  records-writes l few (absent f e) = rw e refl
  records-writes l few (overflows t f) =
      let x = records-listed s hb l (there-at (items_there decode_record s l) t).1 in
      absurd (f (omega (arith, x.count), records-fit (items_in decode_record s l) x.valid))
  records-writes l few (tries t f) = there-writes (items_there decode_record s l) output t

  pub addresses-writes : (l : Items) {w : Written} → WritesBody s (Body.Addresses l) output w → w ≡ spec_write_addresses s l output
  unfolding spec_write_addresses
  addresses-writes l (absent f e) = rw e refl
  addresses-writes l (overflows t f) =
      rw (lt-leb (length (items_in decode_address s l)) 255 (omega (arith, f))) (there-writes (items_there decode_address s l) output t)
  addresses-writes l (tries t f) =
      rw (le-leb (length (items_in decode_address s l)) 255 (omega (arith, f))) (there-writes (items_there decode_address s l) output t)

-- An address has 6 bytes.
module _ (a : Address) (output : List ℕ) where
  address-size : length (encode_address a) ≡ 6
  unfolding encode_address
  address-size = simp (length-append, length-little_endian)

  pub address-roomless : length output < 6 → unwritten 10 output ≡ spec_write_address a output
  unfolding spec_write_address
  address-roomless h = rw (lt-leb (length (encode_address a)) (length output) (omega (arith, address-size))) refl

  pub address-writes : {r : ℕ} {new : List ℕ} → 6 ≤ length output → Puts (encode_address a) 6 output new r →
      record { number = 0; length = r; output = new } ≡ spec_write_address a output
  unfolding spec_write_address
  address-writes h p = rw (le-leb (length (encode_address a)) (length output) (omega (arith, address-size)), p.output, p.written, address-size) refl
