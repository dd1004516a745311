-- What the functions that put the parts of a body ask, of a body that may be put, and that they put its bytes.
use Prim.Native.Nat.{ℕ, ◌+◌, ◌-◌, ◌≤◌, ◌<◌}
use mathlib.Core.Path.{◌≡◌, refl, sym, ap, ◌∙◌}
use mathlib.Core.Bool.{Bool, true, false}
use mathlib.Core.List.{List, ◌++◌, append_assoc}
use native.Mathlib.Omega.{arith}
use lib.ListN.{length, drop, length-append, length-drop}
use lib.Seq.{length-take-le}
use lib.Dec.{leb}
use borrow.Author.Tests.{leb-true}
use Rattle.format.specs.Tables.{pick}
use Rattle.format.specs.Bits.{bits_in, pack_bits, spec_packed_bytes, unused_clear}
use Rattle.format.specs.Layout.{byte, dword, encode_address, encode_extended_status, encode_file_status, encode_record, encode_request_parts, encode_sending_part, encode_string, encode_tags, encode_triple, word}
use Rattle.format.specs.Rules.{Bytes, Word}
use Rattle.format.specs.Decoding.{Decoder, Rule, and_then, bytes_at, decode_run, ends, fault, got, passes, refused, settled, violates}
use Rattle.format.specs.Order.{decode_address, decode_hash, decode_tag}
use Rattle.format.specs.PacketOrder.{check_bits, decode_bits}
use Rattle.format.specs.Writing.{overwritten}
use Rattle.format.proofs.Codec.{bytes-part, length-little_endian}
use Rattle.format.proofs.Bits.{bits-length, pack-unpack}
use Rattle.wire.specs.declared.Items.{Items}
use Rattle.wire.specs.declared.Place.{Place}
use Rattle.wire.specs.WireAnswers.{hash_at, place_bytes}
use Rattle.query.specs.declared.Query.{Query}
use Rattle.records.specs.declared.Address.{Address}
use Rattle.records.specs.declared.Record.{Record}
use Rattle.records.specs.RecordAnswers.{address_of}
use Rattle.bodies.specs.declared.Body.{Body}
use Rattle.bodies.specs.declared.ExtendedStatus.{ExtendedStatus}
use Rattle.bodies.specs.declared.FileStatus.{FileStatus}
use Rattle.bodies.specs.declared.RequestParts.{RequestParts}
use Rattle.bodies.specs.declared.SendingPart.{SendingPart}
use Rattle.bodies.specs.declared.StatusRequest.{StatusRequest}
use Rattle.bodies.specs.declared.Triple.{Triple}
use Rattle.bodies.specs.BodyAnswers.{body_in, held_at, triple_of}
use Rattle.write_items.specs.There.{hash_there, items_there, place_there}
use Rattle.format.specs.RoundTrip.{IsThere}
use Rattle.write_items.proofs.Listed.{Listed}
use Rattle.write_items.proofs.Pieces.{length-string}
use Rattle.write_items.proofs.There.{both_first, both-last, run-size, valid-hash}
use Rattle.check_bodies.specs.Bodies.{bytes_of}
use Rattle.check_bodies.proofs.Extents.{held-size, held_word}
use Rattle.check_bodies.proofs.Places.{addresses-listed, hashes-listed, query-listed, records-listed, tags-listed}
use Rattle.write_items.specs.Puts.{Puts}
use Rattle.write_bodies.specs.PutBodies.{ListRun, Puttable, Run, list_bytes}

-- What was put are the bytes of the body.
pub finished : {raw bytes old new : List ℕ} {n r : ℕ} → raw ≡ bytes → Puts raw n old new r → record { written : r ≡ length bytes; output : new ≡ overwritten bytes old }
finished e h = rw (← e) (record { written = h.written ∙ sym h.sized; output = h.output })

list-run : {A : Type 0} {d : Decoder A} {encode : A → List ℕ} {Valid : A → Type 0} {s : List ℕ} {l : Items} {end : ℕ} → Listed d encode Valid s l end → ListRun s l end
list-run h = (h.order, ap length h.bytes ∙ h.size)

-- The status bits that were decoded lie as they are packed.
bits-packed : (s : List ℕ) → Bytes s → (n at : ℕ) → IsThere (ends (decode_bits n s at)) → Run s at (spec_packed_bytes n) × (pack_bits (held_at n s at) ≡ bytes_at s at (spec_packed_bytes n))
unfolding decode_bits decode_run ends
bits-packed s hb n at h = first (leb (at + spec_packed_bytes n) (length s)) refl h
  where
    second : Run s at (spec_packed_bytes n) → (t : Bool) → unused_clear n (bytes_at s at (spec_packed_bytes n)) ≡ t →
        IsThere (ends (settled at (spec_packed_bytes n) (pick t (passes (bits_in n (bytes_at s at (spec_packed_bytes n)))) (violates Rule.status_bit)) (at + spec_packed_bytes n))) →
        Run s at (spec_packed_bytes n) × (pack_bits (held_at n s at) ≡ bytes_at s at (spec_packed_bytes n))
    second size true e h = (size, pack-unpack n (bytes_at s at (spec_packed_bytes n)) size (bytes-part s hb at (spec_packed_bytes n)) e)
    second size false e h = absurd h

    first : (t : Bool) → leb (at + spec_packed_bytes n) (length s) ≡ t →
        IsThere (ends (and_then s (pick t (got (bytes_at s at (spec_packed_bytes n)) (at + spec_packed_bytes n)) (refused (fault Rule.short at (spec_packed_bytes n)))) (λ a s next. settled at (spec_packed_bytes n) (check_bits n a) next))) →
        Run s at (spec_packed_bytes n) × (pack_bits (held_at n s at) ≡ bytes_at s at (spec_packed_bytes n))
    first true e h =
        second (length-take-le (spec_packed_bytes n) (drop at s) (omega (arith, leb-true (at + spec_packed_bytes n) (length s) e, length-drop at s))) (unused_clear n (bytes_at s at (spec_packed_bytes n))) refl h
    first false e h = absurd h

-- Bodies without places.
module _ {s : List ℕ} {end : ℕ} {out : List ℕ} where
  pub dword-asks : {n : ℕ} → Puttable s (Body.Dword n) end out → 4 ≤ length out
  dword-asks p = omega (arith, simp length-little_endian at p.room)

  pub two-dwords-asks : {n m : ℕ} → Puttable s (Body.TwoDwords n m) end out → 8 ≤ length out
  two-dwords-asks p = omega (arith, simp (length-append, length-little_endian) at p.room)

  pub address-asks : {a : Address} → Puttable s (Body.Address a) end out → 6 ≤ length out
  unfolding encode_address
  address-asks p = omega (arith, simp (length-append, length-little_endian) at p.room)

  pub address-dword-asks : {a : Address} {n : ℕ} → Puttable s (Body.AddressDword a n) end out → 10 ≤ length out
  unfolding encode_address
  address-dword-asks p = omega (arith, simp (length-append, length-little_endian) at p.room)

  pub status-request-asks : {m : StatusRequest} → Puttable s (Body.StatusRequest m) end out → 4 ≤ length out
  status-request-asks p = omega (arith, simp length-little_endian at p.room)

  pub status-asks : {t : Triple} → Puttable s (Body.Status t) end out → 12 ≤ length out
  status-asks p = omega (arith, simp (length-append, length-little_endian) at p.room)

  pub extended-status-asks : {m : ExtendedStatus} → Puttable s (Body.ExtendedStatus m) end out → 16 ≤ length out
  unfolding encode_extended_status
  extended-status-asks p = omega (arith, simp (length-append, length-little_endian) at p.room)

-- Hashes and texts.
hash-run : (s : List ℕ) → Bytes s → (h : ℕ) → IsThere (hash_there s h) → Run s h 16
hash-run s hb h t = (valid-hash s hb h t).0

module _ (s : List ℕ) (t : Place) (h : IsThere (place_there s t)) where
  text-run : Word (length (place_bytes s t)) → Run s t.at t.len × (t.len < 65536)
  text-run few = let r = run-size s t.at t.len h in (r, omega (arith, r))

  text-size : length (encode_string (place_bytes s t)) ≡ 2 + t.len
  text-size = length-string (place_bytes s t) ∙ ap (λ n. 2 + n) (run-size s t.at t.len h)

-- Bodies with a hash or texts.
module _ (s : List ℕ) (hb : Bytes s) {end : ℕ} {out : List ℕ} where
  pub hash-asks : {h : ℕ} → Puttable s (Body.Hash h) end out → Run s h 16 × (16 ≤ length out)
  hash-asks {h} p = let r = hash-run s hb h p.there in (r, omega (arith, r, p.room))

  pub text-asks : {t : Place} → Puttable s (Body.Text t) end out → Run s t.at t.len × (t.len < 65536) × (2 + t.len ≤ length out)
  text-asks {t} p =
      let r = text-run s t p.there p.fit in
      (r.0, r.1, omega (arith, text-size s t p.there, p.room))

  pub two-texts-asks : {t u : Place} → Puttable s (Body.TwoTexts t u) end out →
      (Run s t.at t.len × (t.len < 65536)) × (Run s u.at u.len × (u.len < 65536)) × (4 + t.len + u.len ≤ length out)
  two-texts-asks {t} {u} p =
      let a = both_first (place_there s t) (place_there s u) p.there in
      let b = both-last (place_there s t) (place_there s u) p.there in
      (text-run s t a p.fit.0, text-run s u b p.fit.1, omega (arith, simp length-append at p.room, text-size s t a, text-size s u b))

  pub hash-text-asks : {h : ℕ} {t : Place} → Puttable s (Body.HashText h t) end out → Run s h 16 × Run s t.at t.len × (t.len < 65536) × (18 + t.len ≤ length out)
  hash-text-asks {h} {t} p =
      let a = hash-run s hb h (both_first (hash_there s h) (place_there s t) p.there) in
      let b = both-last (hash_there s h) (place_there s t) p.there in
      let r = text-run s t b p.fit in
      (a, r.0, r.1, omega (arith, simp length-append at p.room, a, text-size s t b))

  pub sending-part-asks : {m : SendingPart} → Puttable s (Body.SendingPart m) end out → Run s m.hash 16 × Run s m.data.at m.data.len × (24 + m.data.len ≤ length out)
  unfolding encode_sending_part
  sending-part-asks {m} p =
      let a = hash-run s hb m.hash (both_first (hash_there s m.hash) (place_there s m.data) p.there) in
      let b = run-size s m.data.at m.data.len (both-last (hash_there s m.hash) (place_there s m.data) p.there) in
      (a, b, omega (arith, simp (length-append, length-little_endian) at p.room, a, b))

  pub request-parts-asks : {m : RequestParts} → Puttable s (Body.RequestParts m) end out → Run s m.hash 16 × (40 ≤ length out)
  unfolding encode_request_parts
  request-parts-asks {m} p =
      let a = hash-run s hb m.hash p.there in
      (a, omega (arith, simp (length-append, length-little_endian) at p.room, a))

  pub file-status-asks : {m : FileStatus} → Puttable s (Body.FileStatus m) end out →
      Run s m.hash 16 × Run s m.bits (spec_packed_bytes m.parts) × (m.parts < 65536) × (18 + spec_packed_bytes m.parts ≤ length out)
  unfolding encode_file_status
  file-status-asks {m} p =
      let o = ends (decode_bits m.parts s m.bits) in
      let a = hash-run s hb m.hash (both_first (hash_there s m.hash) o p.there) in
      let b = bits-packed s hb m.parts m.bits (both-last (hash_there s m.hash) o p.there) in
      let few = held_word m.parts s m.bits p.fit in
      (a, b.0, few, omega (arith, simp (length-append, length-little_endian) at p.room, a, held-size m.parts s m.bits))

  pub file-status-bytes : {m : FileStatus} → Puttable s (Body.FileStatus m) end out →
      (hash_at s m.hash ++ word m.parts) ++ bytes_at s m.bits (spec_packed_bytes m.parts) ≡ bytes_of (body_in s (Body.FileStatus m))
  unfolding encode_file_status
  file-status-bytes {m} p =
      let o = ends (decode_bits m.parts s m.bits) in
      let b = bits-packed s hb m.parts m.bits (both-last (hash_there s m.hash) o p.there) in
      append_assoc (hash_at s m.hash) (word m.parts) (bytes_at s m.bits (spec_packed_bytes m.parts)) ∙
      rw (b.1, bits-length m.parts (bytes_at s m.bits (spec_packed_bytes m.parts))) refl

-- Bodies with a list or query.
module _ (s : List ℕ) (hb : Bytes s) {end : ℕ} {out : List ℕ} where
  pub query-asks : {q : Query} → Puttable s (Body.Query q) end out → (q.at ≤ end) × Run s q.at (end - q.at) × (end - q.at ≤ length out)
  query-asks {q} p = let x = query-listed s hb q p.ended in (x.order, ap length x.bytes ∙ x.size, omega (arith, x.size, p.room))

  pub query-bytes : {q : Query} → Puttable s (Body.Query q) end out → bytes_at s q.at (end - q.at) ≡ bytes_of (body_in s (Body.Query q))
  query-bytes {q} p = (query-listed s hb q p.ended).bytes

  pub addresses-asks : {l : Items} → Puttable s (Body.Addresses l) end out → ListRun s l end × (l.count < 256) × (1 + (end - l.at) ≤ length out)
  addresses-asks {l} p =
      let x = addresses-listed s hb l p.ended in
      (list-run x, omega (arith, x.count, p.fit), omega (arith, simp (length-append, length-little_endian) at p.room, x.size))

  pub addresses-bytes : {l : Items} → Puttable s (Body.Addresses l) end out → byte l.count ++ list_bytes s l end ≡ bytes_of (body_in s (Body.Addresses l))
  addresses-bytes {l} p = let x = addresses-listed s hb l p.ended in rw (x.count, x.bytes) refl

  pub hash-addresses-asks : {h : ℕ} {l : Items} → Puttable s (Body.HashAddresses h l) end out →
      Run s h 16 × ListRun s l end × (l.count < 256) × (17 + (end - l.at) ≤ length out)
  hash-addresses-asks {h} {l} p =
      let a = hash-run s hb h (both_first (hash_there s h) (items_there decode_address s l) p.there) in
      let x = addresses-listed s hb l p.ended in
      (a, list-run x, omega (arith, x.count, p.fit), omega (arith, simp (length-append, length-little_endian) at p.room, x.size, a))

  pub hash-addresses-bytes : {h : ℕ} {l : Items} → Puttable s (Body.HashAddresses h l) end out →
      hash_at s h ++ (byte l.count ++ list_bytes s l end) ≡ bytes_of (body_in s (Body.HashAddresses h l))
  hash-addresses-bytes {h} {l} p = let x = addresses-listed s hb l p.ended in rw (x.count, x.bytes) refl

  pub hashset-asks : {h : ℕ} {l : Items} → Puttable s (Body.Hashset h l) end out →
      Run s h 16 × ListRun s l end × (l.count < 65536) × (18 + (end - l.at) ≤ length out)
  hashset-asks {h} {l} p =
      let a = hash-run s hb h (both_first (hash_there s h) (items_there decode_hash s l) p.there) in
      let x = hashes-listed s hb l p.ended in
      (a, list-run x, omega (arith, x.count, p.fit), omega (arith, simp (length-append, length-little_endian) at p.room, x.size, a))

  pub hashset-bytes : {h : ℕ} {l : Items} → Puttable s (Body.Hashset h l) end out →
      hash_at s h ++ (word l.count ++ list_bytes s l end) ≡ bytes_of (body_in s (Body.Hashset h l))
  hashset-bytes {h} {l} p = let x = hashes-listed s hb l p.ended in rw (x.count, x.bytes) refl

  pub records-asks : {l : Items} → Puttable s (Body.Records l) end out → ListRun s l end × (4 + (end - l.at) ≤ length out)
  records-asks {l} p =
      let x = records-listed s hb l p.ended in
      (list-run x, omega (arith, simp (length-append, length-little_endian) at p.room, x.size))

  pub records-bytes : {l : Items} → Puttable s (Body.Records l) end out → dword l.count ++ list_bytes s l end ≡ bytes_of (body_in s (Body.Records l))
  records-bytes {l} p = let x = records-listed s hb l p.ended in rw (x.count, x.bytes) refl

  pub records-flag-asks : {l : Items} {b : ℕ} → Puttable s (Body.RecordsFlag l b) end out → ListRun s l end × (5 + (end - l.at) ≤ length out)
  records-flag-asks {l} p =
      let x = records-listed s hb l p.ended in
      (list-run x, omega (arith, simp (length-append, length-little_endian) at p.room, x.size))

  pub records-flag-bytes : {l : Items} {b : ℕ} → Puttable s (Body.RecordsFlag l b) end out →
      (dword l.count ++ list_bytes s l end) ++ byte b ≡ bytes_of (body_in s (Body.RecordsFlag l b))
  records-flag-bytes {l} p = let x = records-listed s hb l p.ended in rw (x.count, x.bytes) refl

  pub entry-asks : {h : ℕ} {a : Address} {l : Items} → Puttable s (Body.HashAddressTags h a l) end out →
      Run s h 16 × ListRun s l end × (26 + (end - l.at) ≤ length out)
  unfolding encode_address encode_tags
  entry-asks {h} {a} {l} p =
      let r = hash-run s hb h (both_first (hash_there s h) (items_there decode_tag s l) p.there) in
      let x = tags-listed s hb l p.ended in
      (r, list-run x, omega (arith, simp (length-append, length-little_endian) at p.room, x.size, r))

  pub entry-bytes : {h : ℕ} {a : Address} {l : Items} → Puttable s (Body.HashAddressTags h a l) end out →
      (hash_at s h ++ encode_address (address_of a)) ++ (dword l.count ++ list_bytes s l end) ≡ bytes_of (body_in s (Body.HashAddressTags h a l))
  unfolding encode_tags
  entry-bytes {h} {a} {l} p =
      let x = tags-listed s hb l p.ended in
      append_assoc (hash_at s h) (encode_address (address_of a)) (dword l.count ++ list_bytes s l end) ∙ rw (x.count, x.bytes) refl

  pub record-asks : {r : Record} → Puttable s (Body.Record r) end out → Run s r.hash 16 × ListRun s r.tags end × (26 + (end - r.tags.at) ≤ length out)
  unfolding encode_record encode_tags
  record-asks {r} p =
      let h = hash-run s hb r.hash (both_first (hash_there s r.hash) (items_there decode_tag s r.tags) p.there) in
      let x = tags-listed s hb r.tags p.ended in
      (h, list-run x, omega (arith, simp (length-append, length-little_endian) at p.room, x.size, h))

  pub record-bytes : {r : Record} → Puttable s (Body.Record r) end out →
      hash_at s r.hash ++ (dword r.client ++ (word r.port ++ (dword r.tags.count ++ list_bytes s r.tags end))) ≡ bytes_of (body_in s (Body.Record r))
  unfolding encode_record encode_tags
  record-bytes {r} p = let x = tags-listed s hb r.tags p.ended in rw (x.count, x.bytes) refl

  pub record-address-asks : {r : Record} {a : Address} → Puttable s (Body.RecordAddress r a) end out → Run s r.hash 16 × ListRun s r.tags end × (32 + (end - r.tags.at) ≤ length out)
  unfolding encode_address encode_record encode_tags
  record-address-asks {r} {a} p =
      let h = hash-run s hb r.hash (both_first (hash_there s r.hash) (items_there decode_tag s r.tags) p.there) in
      let x = tags-listed s hb r.tags p.ended in
      (h, list-run x, omega (arith, simp (length-append, length-little_endian) at p.room, x.size, h))

  pub record-address-bytes : {r : Record} {a : Address} → Puttable s (Body.RecordAddress r a) end out →
      (hash_at s r.hash ++ (dword r.client ++ (word r.port ++ (dword r.tags.count ++ list_bytes s r.tags end)))) ++ encode_address (address_of a) ≡ bytes_of (body_in s (Body.RecordAddress r a))
  unfolding encode_record encode_tags
  record-address-bytes {r} p = let x = tags-listed s hb r.tags p.ended in rw (x.count, x.bytes) refl

  pub hello-asks : {r : Record} {a : Address} → Puttable s (Body.Hello r a) end out → Run s r.hash 16 × ListRun s r.tags end × (33 + (end - r.tags.at) ≤ length out)
  unfolding encode_address encode_record encode_tags
  hello-asks {r} {a} p =
      let h = hash-run s hb r.hash (both_first (hash_there s r.hash) (items_there decode_tag s r.tags) p.there) in
      let x = tags-listed s hb r.tags p.ended in
      (h, list-run x, omega (arith, simp (length-append, length-little_endian) at p.room, x.size, h))

  pub hello-bytes : {r : Record} {a : Address} → Puttable s (Body.Hello r a) end out →
      byte 0x10 ++ ((hash_at s r.hash ++ (dword r.client ++ (word r.port ++ (dword r.tags.count ++ list_bytes s r.tags end)))) ++ encode_address (address_of a)) ≡ bytes_of (body_in s (Body.Hello r a))
  unfolding encode_record encode_tags
  hello-bytes {r} p = let x = tags-listed s hb r.tags p.ended in rw (x.count, x.bytes) refl

-- The same bytes, grouped as they are put.
module _ (s : List ℕ) where
  pub sending-part-bytes : (m : SendingPart) →
      (hash_at s m.hash ++ (dword m.start ++ dword m.end)) ++ place_bytes s m.data ≡ bytes_of (body_in s (Body.SendingPart m))
  unfolding encode_sending_part
  sending-part-bytes m = append_assoc (hash_at s m.hash) (dword m.start ++ dword m.end) (place_bytes s m.data)

  pub request-parts-bytes : (m : RequestParts) →
      (hash_at s m.hash ++ encode_triple (triple_of m.starts)) ++ encode_triple (triple_of m.ends) ≡ bytes_of (body_in s (Body.RequestParts m))
  unfolding encode_request_parts
  request-parts-bytes m = append_assoc (hash_at s m.hash) (encode_triple (triple_of m.starts)) (encode_triple (triple_of m.ends))

  pub extended-status-bytes : (m : ExtendedStatus) →
      (((byte m.first ++ byte m.second) ++ byte 0xAA) ++ byte 0x5A) ++ encode_triple (triple_of m.numbers) ≡ bytes_of (body_in s (Body.ExtendedStatus m))
  unfolding encode_extended_status
  extended-status-bytes m = simp append_assoc
