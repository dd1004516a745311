-- What the answers for bodies stand for.
use Rattle.std.specs.Prelude.{ℕ, ◌+◌, ◌≡◌, Bool, List}
use Rattle.std.proofs.Common.{inl, inr}
use Rattle.format.specs.Messages as messages
use Rattle.format.specs.Bits.{spec_packed_bytes, bits_in}
use Rattle.format.specs.Decoding.{Outcome, got, bytes_at, ends}
use Rattle.format.specs.Order.{decode_hash, decode_tag, decode_address, decode_record}
use Rattle.format.specs.PacketOrder.{decode_bits}
use Rattle.wire.specs.WireAnswers.{Step, step_meaning, OfStep, hash_at, HashInside, Inside, place_bytes, PlaceInside, items_in, ItemsInside}
use Rattle.query.specs.QueryAnswers.{query_in, QueryPlaced}
use Rattle.records.specs.RecordAnswers.{address_of, record_in, RecordPlaced}
use Rattle.bodies.specs.declared.Shape.{Shape}
use Rattle.bodies.specs.declared.Triple.{Triple}
use Rattle.bodies.specs.declared.Form.{Form}
use Rattle.bodies.specs.declared.ExtendedStatus.{ExtendedStatus}
use Rattle.bodies.specs.declared.Body.{Body}

abbrev pub shape_of : Shape → messages.Shape
shape_of Shape.Nothing = messages.nothing_body
shape_of Shape.Query = messages.query_body
shape_of Shape.Hash = messages.hash_body
shape_of Shape.Dword = messages.dword_body
shape_of Shape.TwoDwords = messages.two_dwords_body
shape_of Shape.Text = messages.text_body
shape_of Shape.TwoTexts = messages.two_texts_body
shape_of Shape.Address = messages.address_body
shape_of Shape.Addresses = messages.addresses_body
shape_of Shape.HashAddresses = messages.hash_addresses_body
shape_of Shape.AddressDword = messages.address_dword_body
shape_of Shape.HashAddressTags = messages.hash_address_tags_body
shape_of Shape.Record = messages.record_body
shape_of Shape.Records = messages.records_body
shape_of Shape.RecordsFlag = messages.records_flag_body
shape_of Shape.RecordAddress = messages.record_address_body
shape_of Shape.Hello = messages.hello_body
shape_of Shape.HashText = messages.hash_text_body
shape_of Shape.Hashset = messages.hashset_body
shape_of Shape.SendingPart = messages.sending_part_body
shape_of Shape.RequestParts = messages.request_parts_body
shape_of Shape.FileStatus = messages.file_status_body
shape_of Shape.StatusRequest = messages.status_request_body
shape_of Shape.Status = messages.status_body

abbrev pub form_meaning : Form → messages.Form
form_meaning Form.Plain = messages.plain
form_meaning Form.Extended = messages.extended

abbrev pub triple_of : Triple → messages.Triple
triple_of t = (t.first, (t.second, t.third))

abbrev pub extended_status_of : ExtendedStatus → messages.ExtendedStatus
extended_status_of p = record { first = p.first; second = p.second; numbers = triple_of p.numbers }

-- The bits of n parts whose bytes begin at a place.
abbrev pub held_at : ℕ → List ℕ → ℕ → List Bool
held_at n s at = bits_in n (bytes_at s at (spec_packed_bytes n))

-- A body with its shape. A place stands for what lies there.
abbrev pub body_in : List ℕ → Body → (shape : messages.Shape) × messages.Values shape
body_in s Body.Nothing = (messages.nothing_body, tt)
body_in s (Body.Query q) = (messages.query_body, query_in s q)
body_in s (Body.Hash h) = (messages.hash_body, hash_at s h)
body_in s (Body.Dword n) = (messages.dword_body, n)
body_in s (Body.TwoDwords n m) = (messages.two_dwords_body, (n, m))
body_in s (Body.Text t) = (messages.text_body, place_bytes s t)
body_in s (Body.TwoTexts t u) = (messages.two_texts_body, (place_bytes s t, place_bytes s u))
body_in s (Body.Address a) = (messages.address_body, address_of a)
body_in s (Body.Addresses l) = (messages.addresses_body, items_in decode_address s l)
body_in s (Body.HashAddresses h l) = (messages.hash_addresses_body, (hash_at s h, items_in decode_address s l))
body_in s (Body.AddressDword a n) = (messages.address_dword_body, (address_of a, n))
body_in s (Body.HashAddressTags h a l) = (messages.hash_address_tags_body, (hash_at s h, (address_of a, items_in decode_tag s l)))
body_in s (Body.Record r) = (messages.record_body, record_in s r)
body_in s (Body.Records l) = (messages.records_body, items_in decode_record s l)
body_in s (Body.RecordsFlag l b) = (messages.records_flag_body, (items_in decode_record s l, b))
body_in s (Body.RecordAddress r a) = (messages.record_address_body, (record_in s r, address_of a))
body_in s (Body.Hello r a) = (messages.hello_body, (record_in s r, address_of a))
body_in s (Body.HashText h t) = (messages.hash_text_body, (hash_at s h, place_bytes s t))
body_in s (Body.Hashset h l) = (messages.hashset_body, (hash_at s h, items_in decode_hash s l))
body_in s (Body.SendingPart p) =
    (messages.sending_part_body, record { hash = hash_at s p.hash; start = p.start; end = p.end; bytes = place_bytes s p.data })
body_in s (Body.RequestParts p) =
    (messages.request_parts_body, record { hash = hash_at s p.hash; starts = triple_of p.starts; ends = triple_of p.ends })
body_in s (Body.FileStatus p) =
    (messages.file_status_body, record { hash = hash_at s p.hash; held = held_at p.parts s p.bits })
body_in s (Body.StatusRequest p) = (messages.status_request_body, record { form = form_meaning p.form; number = p.number })
body_in s (Body.Status t) = (messages.status_body, inl (triple_of t))
body_in s (Body.ExtendedStatus p) = (messages.status_body, inr (extended_status_of p))

abbrev pub body_meaning : List ℕ → Step Body → Outcome ((shape : messages.Shape) × messages.Values shape)
body_meaning s = step_meaning (body_in s)

-- Status bits lie wholly inside the bytes, and are decoded there: the unused ones are 0.
abbrev pub BitsInside : ℕ → List ℕ → ℕ → Type 0
BitsInside n s at = Inside s at (spec_packed_bytes n) × (ends (decode_bits n s at) ≡ got tt (at + spec_packed_bytes n))

-- Each text, hash, list and query of a body, its data and its status bits lie where the body says, wholly inside the bytes.
abbrev pub BodyPlaced : List ℕ → Body → Type 0
BodyPlaced s Body.Nothing = Unit {0}
BodyPlaced s (Body.Query q) = QueryPlaced s q
BodyPlaced s (Body.Hash h) = HashInside s h
BodyPlaced s (Body.Dword n) = Unit {0}
BodyPlaced s (Body.TwoDwords n m) = Unit {0}
BodyPlaced s (Body.Text t) = PlaceInside s t
BodyPlaced s (Body.TwoTexts t u) = PlaceInside s t × PlaceInside s u
BodyPlaced s (Body.Address a) = Unit {0}
BodyPlaced s (Body.Addresses l) = ItemsInside decode_address s l
BodyPlaced s (Body.HashAddresses h l) = HashInside s h × ItemsInside decode_address s l
BodyPlaced s (Body.AddressDword a n) = Unit {0}
BodyPlaced s (Body.HashAddressTags h a l) = HashInside s h × ItemsInside decode_tag s l
BodyPlaced s (Body.Record r) = RecordPlaced s r
BodyPlaced s (Body.Records l) = ItemsInside decode_record s l
BodyPlaced s (Body.RecordsFlag l b) = ItemsInside decode_record s l
BodyPlaced s (Body.RecordAddress r a) = RecordPlaced s r
BodyPlaced s (Body.Hello r a) = RecordPlaced s r
BodyPlaced s (Body.HashText h t) = HashInside s h × PlaceInside s t
BodyPlaced s (Body.Hashset h l) = HashInside s h × ItemsInside decode_hash s l
BodyPlaced s (Body.SendingPart p) = HashInside s p.hash × PlaceInside s p.data
BodyPlaced s (Body.RequestParts p) = HashInside s p.hash
BodyPlaced s (Body.FileStatus p) = HashInside s p.hash × BitsInside p.parts s p.bits
BodyPlaced s (Body.StatusRequest p) = Unit {0}
BodyPlaced s (Body.Status t) = Unit {0}
BodyPlaced s (Body.ExtendedStatus p) = Unit {0}

abbrev pub BodyStepPlaced : List ℕ → Step Body → Type 0
BodyStepPlaced s = OfStep (BodyPlaced s)

-- Parts of bodies

abbrev pub range_meaning : Step (ℕ × ℕ) → Outcome (ℕ × ℕ)
range_meaning = step_meaning (λ r. r)

abbrev pub triple_meaning : Step Triple → Outcome messages.Triple
triple_meaning = step_meaning triple_of

abbrev pub ranges_meaning : Step (Triple × Triple) → Outcome (messages.Triple × messages.Triple)
ranges_meaning = step_meaning (λ r. (triple_of r.0, triple_of r.1))

abbrev pub bits_meaning : ℕ → List ℕ → Step ℕ → Outcome (List Bool)
bits_meaning n s = step_meaning (held_at n s)

abbrev pub BitsStepInside : ℕ → List ℕ → Step ℕ → Type 0
BitsStepInside n s = OfStep (BitsInside n s)

abbrev pub extended_status_meaning : Step ExtendedStatus → Outcome messages.ExtendedStatus
extended_status_meaning = step_meaning extended_status_of
