-- What the writer of bodies finds out about a body before it is written, and the bytes that it writes.
use Rattle.std.specs.Prelude.{◌≡◌, List, ℕ, ◌+◌, ◌≤◌, length, drop, Result, Ok, Err}
use Rattle.format.specs.Messages as messages
use Rattle.format.specs.Layout.{encode_values}
use Rattle.format.specs.Rules.{ValidValues}
use Rattle.format.specs.Decoding.{Outcome, Rule, ends, fault, got, number, refused}
use Rattle.format.specs.Order.{decode_address, decode_hash, decode_query, decode_record, decode_tag}
use Rattle.format.specs.PacketOrder.{decode_bits, decode_body}
use Rattle.format.specs.Writing.{ValuesFit}
use Rattle.wire.specs.declared.Fault.{Fault}
use Rattle.wire.specs.WireAnswers.{fault_meaning}
use Rattle.output.specs.declared.Refusal.{Refusal}
use Rattle.output.specs.WriteAnswers.{number_of, refusal_of}
use Rattle.query.specs.declared.Query.{Query}
use Rattle.records.specs.declared.Record.{Record}
use Rattle.bodies.specs.declared.Body.{Body}
use Rattle.bodies.specs.BodyAnswers.{body_in}
use Rattle.write_items.specs.There.{both_there, hash_there, items_there, place_there}
use Rattle.format.specs.RoundTrip.{IsThere}
use Rattle.check_bodies.specs.declared.BodyCheck.{BodyCheck}

abbrev pub query_there : List ℕ → Query → Outcome (Unit {0})
query_there s q = ends (decode_query s q.at)

abbrev pub record_there : List ℕ → Record → Outcome (Unit {0})
record_there s r = both_there (hash_there s r.hash) (items_there decode_tag s r.tags)

-- The places of a body, in the order of its layout. A body without places is there.
abbrev pub body_there : List ℕ → Body → Outcome (Unit {0})
body_there s Body.Nothing = got tt 0
body_there s (Body.Query q) = query_there s q
body_there s (Body.Hash h) = hash_there s h
body_there s (Body.Dword n) = got tt 0
body_there s (Body.TwoDwords n m) = got tt 0
body_there s (Body.Text t) = place_there s t
body_there s (Body.TwoTexts t u) = both_there (place_there s t) (place_there s u)
body_there s (Body.Address a) = got tt 0
body_there s (Body.Addresses l) = items_there decode_address s l
body_there s (Body.HashAddresses h l) = both_there (hash_there s h) (items_there decode_address s l)
body_there s (Body.AddressDword a n) = got tt 0
body_there s (Body.HashAddressTags h a l) = both_there (hash_there s h) (items_there decode_tag s l)
body_there s (Body.Record r) = record_there s r
body_there s (Body.Records l) = items_there decode_record s l
body_there s (Body.RecordsFlag l b) = items_there decode_record s l
body_there s (Body.RecordAddress r a) = record_there s r
body_there s (Body.Hello r a) = record_there s r
body_there s (Body.HashText h t) = both_there (hash_there s h) (place_there s t)
body_there s (Body.Hashset h l) = both_there (hash_there s h) (items_there decode_hash s l)
body_there s (Body.SendingPart p) = both_there (hash_there s p.hash) (place_there s p.data)
body_there s (Body.RequestParts p) = hash_there s p.hash
body_there s (Body.FileStatus p) = both_there (hash_there s p.hash) (ends (decode_bits p.parts s p.bits))
body_there s (Body.StatusRequest p) = got tt 0
body_there s (Body.Status t) = got tt 0
body_there s (Body.ExtendedStatus p) = got tt 0

-- The offset after the list or the query of a body, which is worked out anew: the end that a body gives is not trusted. A body
-- has one list or query at most.
abbrev pub EndsAt : Outcome (Unit {0}) → ℕ → Type 0
EndsAt there end = there ≡ got tt end

abbrev pub BodyEnds : List ℕ → Body → ℕ → Type 0
BodyEnds s (Body.Query q) end = EndsAt (query_there s q) end
BodyEnds s (Body.Addresses l) end = EndsAt (items_there decode_address s l) end
BodyEnds s (Body.HashAddresses h l) end = EndsAt (items_there decode_address s l) end
BodyEnds s (Body.HashAddressTags h a l) end = EndsAt (items_there decode_tag s l) end
BodyEnds s (Body.Record r) end = EndsAt (items_there decode_tag s r.tags) end
BodyEnds s (Body.Records l) end = EndsAt (items_there decode_record s l) end
BodyEnds s (Body.RecordsFlag l b) end = EndsAt (items_there decode_record s l) end
BodyEnds s (Body.RecordAddress r a) end = EndsAt (items_there decode_tag s r.tags) end
BodyEnds s (Body.Hello r a) end = EndsAt (items_there decode_tag s r.tags) end
BodyEnds s (Body.Hashset h l) end = EndsAt (items_there decode_hash s l) end
BodyEnds s Body.Nothing end = Unit {0}
BodyEnds s (Body.Hash h) end = Unit {0}
BodyEnds s (Body.Dword n) end = Unit {0}
BodyEnds s (Body.TwoDwords n m) end = Unit {0}
BodyEnds s (Body.Text t) end = Unit {0}
BodyEnds s (Body.TwoTexts t u) end = Unit {0}
BodyEnds s (Body.Address a) end = Unit {0}
BodyEnds s (Body.AddressDword a n) end = Unit {0}
BodyEnds s (Body.HashText h t) end = Unit {0}
BodyEnds s (Body.SendingPart p) end = Unit {0}
BodyEnds s (Body.RequestParts p) end = Unit {0}
BodyEnds s (Body.FileStatus p) end = Unit {0}
BodyEnds s (Body.StatusRequest p) end = Unit {0}
BodyEnds s (Body.Status t) end = Unit {0}
BodyEnds s (Body.ExtendedStatus p) end = Unit {0}

abbrev pub bytes_of : (shape : messages.Shape) × messages.Values shape → List ℕ
bytes_of v = encode_values v.0 v.1

-- What the reader says of the finished bytes of a body, wherever they stand at the end of a packet: that its values keep the rules; the
-- number of the rule that they break; or 5, since the bytes are those of other values.
pub data BodyRule (v : (shape : messages.Shape) × messages.Values shape) : ℕ → Type 0 where
  keeps : ValidValues v.0 v.1 → BodyRule v 0
  breaks : (rule : Rule) (from size : ℕ) →
      ((s : List ℕ) (at : ℕ) → at ≤ length s → drop at s ≡ bytes_of v → decode_body v.0 s at ≡ refused (fault rule (at + from) size)) → BodyRule v (number rule)
  differs : (w : (shape : messages.Shape) × messages.Values shape) → (w ≡ v → ⊥) →
      ((s : List ℕ) (at : ℕ) → at ≤ length s → drop at s ≡ bytes_of v → decode_body v.0 s at ≡ got w (length s)) → BodyRule v 5

-- The findings: the refusal of a place that does not hold what it should; 6 for a text or list that its count field cannot hold; or the
-- size of the bytes, the offset after the list, and what the reader says of the values.
pub data BodyChecked (s : List ℕ) (b : Body) : Result BodyCheck Refusal → Type 0 where
  absent : (f : Fault) → body_there s b ≡ refused (fault_meaning f) → BodyChecked s b (Err (refusal_of f.rule))
  overflows : IsThere (body_there s b) → (ValuesFit (body_in s b).0 (body_in s b).1 → ⊥) → BodyChecked s b (Err Refusal.Limit)
  sized : (size end : ℕ) (rule : Result (Unit {0}) Refusal) → IsThere (body_there s b) → ValuesFit (body_in s b).0 (body_in s b).1 → size ≡ length (bytes_of (body_in s b)) →
      BodyEnds s b end → BodyRule (body_in s b) (number_of rule) → BodyChecked s b (Ok (record { size = size; end = end; rule = rule }))
