-- A packet that was read is written back as its bytes: from the contract of `read_packet` and that of `write_packet`, and no other fact.
use Prim.Native.Nat.{ℕ, ◌≤◌}
use mathlib.Core.Path.{◌≡◌, refl}
use mathlib.Core.Bool.{Bool, true, false}
use mathlib.Core.Logic.{◌↔◌}
use mathlib.Core.Option.{some}
use mathlib.Core.List.{List, [], ◌∷◌}
use lib.ListN.{length}
use lib.Dec.{eqb}
use borrow.Author.Tests.{eq-eqb}
use Rattle.format.specs.Tables.{lookup, pick, rows}
use Rattle.format.specs.Messages as messages
use Rattle.format.specs.Messages.{Opcodes, Shape, client_opcodes, server_opcodes, udp_opcodes}
use Rattle.format.specs.Decoding.{message, ends}
use Rattle.format.specs.Order.{decode_address, decode_hash, decode_record, decode_tag}
use Rattle.format.specs.PacketOrder.{decode_bits}
use Rattle.format.specs.Writing.{overwritten}
use Rattle.format.specs.RoundTrip.{IsThere, RoundTrip, WritesAt}
use Rattle.format.proofs.Differ.{differ}
use Rattle.output.specs.declared.Refusal.{Refusal}
use Rattle.records.specs.declared.Record.{Record}
use Rattle.records.specs.RecordAnswers.{RecordPlaced}
use Rattle.bodies.specs.declared.Body.{Body}
use Rattle.bodies.specs.BodyAnswers.{BodyPlaced, body_in}
use Rattle.packets.specs.declared.Link.{Link}
use Rattle.packets.specs.declared.Packet.{Packet}
use Rattle.packets.specs.PacketAnswers.{LinkAccepts, PacketPlaced, link_reply, packet_in, packet_reply}
use Rattle.output.specs.WriteAnswers.{answered}
use Rattle.write_items.specs.There.{hash_there, items_there, place_there}
use Rattle.write_items.proofs.There.{is-there}
use Rattle.write_items.proofs.Back.{both-here, hash-here, items-here, place_here, query-here, written_back}
use Rattle.check_bodies.specs.Bodies.{body_there, record_there}
use Rattle.write_packets.specs.Packets.{kind_of, packet_of, packet_there, spec_another_shape, spec_shape_number, unlike}
use Rattle.std.specs.Prelude.{Result, Ok}
use Rattle.wire.specs.declared.Rule.{Rule}

-- A body that lies inside is there.
module _ (s : List ℕ) where
  record-here : (r : Record) → RecordPlaced s r → IsThere (record_there s r)
  record-here r h = both-here (hash_there s r.hash) (items_there decode_tag s r.tags) (hash-here s r.hash h.0) (items-here s decode_tag r.tags h.1)

  pub body-here : (b : Body) → BodyPlaced s b → IsThere (body_there s b)
  body-here Body.Nothing h = tt
  body-here (Body.Query q) h = query-here s q h
  body-here (Body.Hash a) h = hash-here s a h
  body-here (Body.Dword n) h = tt
  body-here (Body.TwoDwords n m) h = tt
  body-here (Body.Text t) h = place_here s t h
  body-here (Body.TwoTexts t u) h = both-here (place_there s t) (place_there s u) (place_here s t h.0) (place_here s u h.1)
  body-here (Body.Address a) h = tt
  body-here (Body.Addresses l) h = items-here s decode_address l h
  body-here (Body.HashAddresses a l) h = both-here (hash_there s a) (items_there decode_address s l) (hash-here s a h.0) (items-here s decode_address l h.1)
  body-here (Body.AddressDword a n) h = tt
  body-here (Body.HashAddressTags a b l) h = both-here (hash_there s a) (items_there decode_tag s l) (hash-here s a h.0) (items-here s decode_tag l h.1)
  body-here (Body.Record r) h = record-here r h
  body-here (Body.Records l) h = items-here s decode_record l h
  body-here (Body.RecordsFlag l b) h = items-here s decode_record l h
  body-here (Body.RecordAddress r a) h = record-here r h
  body-here (Body.Hello r a) h = record-here r h
  body-here (Body.HashText a t) h = both-here (hash_there s a) (place_there s t) (hash-here s a h.0) (place_here s t h.1)
  body-here (Body.Hashset a l) h = both-here (hash_there s a) (items_there decode_hash s l) (hash-here s a h.0) (items-here s decode_hash l h.1)
  body-here (Body.SendingPart p) h = both-here (hash_there s p.hash) (place_there s p.data) (hash-here s p.hash h.0) (place_here s p.data h.1)
  body-here (Body.RequestParts p) h = hash-here s p.hash h
  body-here (Body.FileStatus p) h = both-here (hash_there s p.hash) (ends (decode_bits p.parts s p.bits)) (hash-here s p.hash h.0) (is-there h.1.1)
  body-here (Body.StatusRequest p) h = tt
  body-here (Body.Status t) h = tt
  body-here (Body.ExtendedStatus p) h = tt

-- A packet of a link has the shape that the link lists for its opcode.
own-shape : (table : Opcodes) (opening opcode : ℕ) (shape : Shape) → lookup (rows ((0xE3, table) ∷ []) opening) opcode ≡ some shape →
    unlike (lookup table opcode) shape ≡ false
own-shape table opening opcode shape e = go (eqb opening 0xE3) e
  where
    go : (t : Bool) → lookup (pick t table []) opcode ≡ some shape → unlike (lookup table opcode) shape ≡ false
    go true e = rw (e, eq-eqb (spec_shape_number shape) (spec_shape_number shape) refl) refl
    go false e = differ cc

own : (link : Link) (s : List ℕ) (p : Packet) → LinkAccepts link s (packet_in s p) → spec_another_shape link s p ≡ false
own Link.Server s p h = own-shape server_opcodes p.opening p.opcode (body_in s p.body).0 h.1.content.listed
own Link.Client s p h = own-shape client_opcodes p.opening p.opcode (body_in s p.body).0 h.1.content.listed
own Link.Udp s p h = own-shape udp_opcodes p.opening p.opcode (body_in s p.body).0 h.1.content.listed

-- `r` is an answer of `read_packet` for s, by its three clauses.
module _ (s : List ℕ) (link : Link) (r : Result Packet Rule)
    (meaning : packet_reply s r ≡ link_reply link s)
    (placed : PacketPlaced s r)
    (demand3 : (m : messages.Packet) → (packet_reply s r ≡ message m) ↔ LinkAccepts link s m)
    (p : Packet) (accepted : r ≡ Ok p) where
  accepts : LinkAccepts link s (packet_in s p)
  accepts = (demand3 (packet_in s p)).0 (rw accepted refl)

  -- It is there for the writer.
  pub packet-here : IsThere (packet_there link s p)
  packet-here = rw (own link s p accepts) (body-here s p.body (rw accepted at placed))

  -- `a` and `out` are what `write_packet` leaves of it, by its two clauses, with room for s.
  module _ (output out : List ℕ) (a : Result ℕ Refusal)
      (writes : WritesAt (kind_of link) (packet_there link s p) (packet_of link s p) output (answered a out))
      (round : RoundTrip (kind_of link) (packet_there link s p) (packet_of link s p) output (answered a out))
      (room : length s ≤ length output) where
    pub packet-back : answered a out ≡ record { number = 0; length = length s; output = overwritten s output }
    packet-back = go link accepts packet-here writes round
      where
        go : (link : Link) → LinkAccepts link s (packet_in s p) → IsThere (packet_there link s p) →
            WritesAt (kind_of link) (packet_there link s p) (packet_of link s p) output (answered a out) →
            RoundTrip (kind_of link) (packet_there link s p) (packet_of link s p) output (answered a out) →
            answered a out ≡ record { number = 0; length = length s; output = overwritten s output }
        go Link.Server read here writes round = written_back messages.server_link _ (packet_in s p) s output here read room writes round
        go Link.Client read here writes round = written_back messages.client_link _ (packet_in s p) s output here read room writes round
        go Link.Udp read here writes round = written_back messages.udp_link _ (packet_in s p) s output here read room writes round
