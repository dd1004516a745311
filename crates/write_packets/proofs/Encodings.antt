-- The encoding of a packet whose places lie in a slice is made of bytes.
use mathlib.Core.Path.{◌≡◌, refl}
use mathlib.Core.List.{List, ◌++◌}
use Prim.Native.Nat.{ℕ, ◌-◌}
use Rattle.format.specs.Messages as messages
use Rattle.format.specs.Layout.{encode, encode_address, encode_all, encode_body, encode_extended_status, encode_file_status, encode_query, encode_record, encode_request_parts, encode_sending_part, encode_string, encode_tags, encode_tcp, encode_triple, encode_udp, little_endian}
use Rattle.format.specs.Rules.{Bytes}
use Rattle.format.specs.Decoding.{Decoder, Outcome, bytes_at, got, refused}
use Rattle.format.specs.Order.{decode_query, decode_tag}
use Rattle.format.proofs.Codec.{anywhere, bytes-append, bytes-little_endian, bytes-part, Codec}
use Rattle.format.proofs.Items.{codec-address, codec-hash, codec-query, codec-record, codec-tag}
use Rattle.format.proofs.Bits.{packed-bytes}
use Rattle.format.proofs.Writing.{address-needed, hash-needed, lies, NeedsByte, query-needed, record-needed, tag-needed}
use Rattle.wire.specs.declared.Items.{Items}
use Rattle.wire.specs.WireAnswers.{items_in}
use Rattle.query.specs.QueryAnswers.{query_of}
use Rattle.records.specs.declared.Record.{Record}
use Rattle.records.specs.RecordAnswers.{address_of, record_in}
use Rattle.bodies.specs.declared.Body.{Body}
use Rattle.bodies.specs.BodyAnswers.{body_in, held_at, triple_of}
use Rattle.packets.specs.declared.Link.{Link}
use Rattle.packets.specs.declared.Packet.{Packet}
use Rattle.write_items.proofs.Listed.{items-bytes}
use Rattle.check_bodies.specs.Bodies.{bytes_of}
use Rattle.write_packets.specs.Packets.{kind_of, packet_of}

record Plain (l : List ℕ) : Type 0 where
  bytes : Bytes l

joined : {l r : List ℕ} → Plain l → Plain r → Plain (l ++ r)
joined {l} {r} a b = record { bytes = bytes-append l r a.bytes b.bytes }

number : (k n : ℕ) → Plain (little_endian k n)
number k n = record { bytes = bytes-little_endian k n }

module _ (s : List ℕ) (hb : Bytes s) where
  -- What lies at a place.
  run : (at n : ℕ) → Plain (bytes_at s at n)
  run at n = record { bytes = bytes-part s hb at n }

  items : {A : Type 0} {d : Decoder A} {encode : A → List ℕ} {Valid : A → Type 0} → Codec anywhere d encode Valid → NeedsByte d → (l : Items) → Plain (encode_all encode (items_in d s l))
  items L needed l = record { bytes = items-bytes L needed s hb l }

  string : (at n : ℕ) → Plain (encode_string (bytes_at s at n))
  unfolding encode_string
  string at n = joined (number 2 _) (run at n)

  query : (at : ℕ) → Plain (encode_query (query_of (decode_query s at)))
  unfolding encode_query encode_string
  query at = go (decode_query s at) refl
    where
      go : (o : Outcome messages.Query) → decode_query s at ≡ o → Plain (encode_query (query_of o))
      go (refused f) e = joined (number 1 1) (joined (number 2 0) (record { bytes = tt }))
      go (got q next) e = rw (← (lies codec-query query-needed s hb at e).bytes) (run at (next - at))

  address : (a : messages.Address) → Plain (encode_address a)
  unfolding encode_address
  address a = joined (number 4 _) (number 2 _)

  triple : (t : messages.Triple) → Plain (encode_triple t)
  triple t = joined (number 4 _) (joined (number 4 _) (number 4 _))

  tags : (l : Items) → Plain (encode_tags (items_in decode_tag s l))
  unfolding encode_tags
  tags l = joined (number 4 _) (items codec-tag tag-needed l)

  file : (r : Record) → Plain (encode_record (record_in s r))
  unfolding encode_record
  file r = joined (run r.hash 16) (joined (number 4 _) (joined (number 2 _) (tags r.tags)))

  body : (b : Body) → Plain (bytes_of (body_in s b))
  unfolding encode_sending_part encode_request_parts encode_file_status encode_extended_status
  body Body.Nothing = record { bytes = tt }
  body (Body.Query q) = query q.at
  body (Body.Hash h) = run h 16
  body (Body.Dword n) = number 4 n
  body (Body.TwoDwords n m) = joined (number 4 n) (number 4 m)
  body (Body.Text t) = string t.at t.len
  body (Body.TwoTexts t u) = joined (string t.at t.len) (string u.at u.len)
  body (Body.Address a) = address (address_of a)
  body (Body.Addresses l) = joined (number 1 _) (items codec-address address-needed l)
  body (Body.HashAddresses h l) = joined (run h 16) (joined (number 1 _) (items codec-address address-needed l))
  body (Body.AddressDword a n) = joined (address (address_of a)) (number 4 n)
  body (Body.HashAddressTags h a l) = joined (run h 16) (joined (address (address_of a)) (tags l))
  body (Body.Record r) = file r
  body (Body.Records l) = joined (number 4 _) (items codec-record record-needed l)
  body (Body.RecordsFlag l b) = joined (joined (number 4 _) (items codec-record record-needed l)) (number 1 b)
  body (Body.RecordAddress r a) = joined (file r) (address (address_of a))
  body (Body.Hello r a) = joined (number 1 0x10) (joined (file r) (address (address_of a)))
  body (Body.HashText h t) = joined (run h 16) (string t.at t.len)
  body (Body.Hashset h l) = joined (run h 16) (joined (number 2 _) (items codec-hash hash-needed l))
  body (Body.SendingPart p) = joined (run p.hash 16) (joined (joined (number 4 _) (number 4 _)) (run p.data.at p.data.len))
  body (Body.RequestParts p) = joined (run p.hash 16) (joined (triple (triple_of p.starts)) (triple (triple_of p.ends)))
  body (Body.FileStatus p) = joined (run p.hash 16) (joined (number 2 _) (record { bytes = packed-bytes (held_at p.parts s p.bits) }))
  body (Body.StatusRequest p) = number 4 _
  body (Body.Status t) = triple (triple_of t)
  body (Body.ExtendedStatus p) =
      joined (number 1 _) (joined (number 1 _) (joined (number 1 0xAA) (joined (number 1 0x5A) (triple (triple_of p.numbers)))))

  pub packet-bytes : (link : Link) (p : Packet) → Bytes (encode (kind_of link) (packet_of link s p))
  unfolding encode_tcp encode_udp encode_body
  packet-bytes Link.Server p = (joined (number 1 _) (joined (number 4 _) (joined (number 1 _) (body p.body)))).bytes
  packet-bytes Link.Client p = (joined (number 1 _) (joined (number 4 _) (joined (number 1 _) (body p.body)))).bytes
  packet-bytes Link.Udp p = (joined (number 1 _) (joined (number 1 _) (body p.body))).bytes
