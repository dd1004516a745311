-- The numbers of a message that was read are numbers that its fields can hold: a lawful message has such values, and a list that lies where
-- it is said to lie has as many items as it counts.
use Prim.Native.Nat.{ℕ, zero, suc, ◌≤◌, ◌<◌}
use native.Mathlib.Omega.{arith}
use mathlib.Core.Path.{◌≡◌, sym, ap, ◌∙◌}
use mathlib.Core.Logic.{inl, inr}
use mathlib.Core.List.{List}
use lib.ListN.{length}
use Rattle.format.specs.Messages as messages
use Rattle.format.specs.Tables.{OneOf}
use Rattle.format.specs.Rules.{Byte, Dword, met_openings, ValidAddress, ValidHashBlocks, ValidKnownMet, ValidPacket, ValidPartMet, ValidRecord, ValidServerMet, ValidTags, ValidTriple, ValidValues}
use Rattle.format.specs.Decoding.{Decoder, decode_many, decode_run, got}
use Rattle.format.specs.Order.{decode_address, decode_hash, decode_record, decode_tag}
use Rattle.format.specs.MetOrder.{decode_file_entry, decode_server_entry}
use Rattle.format.proofs.Codec.{same-value, went}
use Rattle.format.proofs.Many.{ends-items}
use Rattle.format.proofs.PartTags.{check-means}
use Rattle.format.proofs.PartMet.{size-dword}
use Rattle.wire.specs.declared.Items.{Items}
use Rattle.wire.specs.WireAnswers.{ItemsInside, items_in}
use Rattle.records.specs.declared.Address.{Address}
use Rattle.records.specs.declared.Record.{Record}
use Rattle.records.specs.RecordAnswers.{RecordPlaced, address_of, record_in}
use Rattle.bodies.specs.declared.Body.{Body}
use Rattle.bodies.specs.declared.Triple.{Triple}
use Rattle.bodies.specs.BodyAnswers.{BodyPlaced, body_in, triple_of}
use Rattle.packets.specs.declared.Packet.{Packet}
use Rattle.packets.specs.PacketAnswers.{packet_in}
use Rattle.met.specs.declared.HashBlocks.{HashBlocks}
use Rattle.met.specs.declared.KnownMet.{KnownMet}
use Rattle.met.specs.declared.PartMet.{PartMet}
use Rattle.met.specs.declared.ServerMet.{ServerMet}
use Rattle.met.specs.MetAnswers.{BlocksPlaced, KnownMetPlaced, PartMetPlaced, PartMetSized, ServerMetPlaced, blocks_in, known_met_in, part_met_in, server_met_in}
use Rattle.fields.specs.Given.{AddressFits, BlocksFit, BodyFits, ItemsFit, KnownFits, PacketFits, PartFits, RecordFits, ServerFits, TripleFits}

many-length : {A : Type 0} (d : Decoder A) (s : List ℕ) (n at end : ℕ) (l : List A) → decode_many n d s at ≡ got l end → length l ≡ n
many-length d s zero at end l e = ap length (sym (same-value e))
many-length d s (suc n) at end l e =
    let w = went s (d s at) e in
    let v = went s (decode_many n d s w.mid) w.then in
    ap length (sym (same-value v.then)) ∙ ap suc (many-length d s n w.mid v.mid v.first v.was)

met-byte : {n : ℕ} → OneOf met_openings n → Byte n
met-byte (inl e) = omega arith
met-byte (inr none) = absurd none

module _ (s : List ℕ) where
  pub items-length : {A : Type 0} (d : Decoder A) (l : Items) → ItemsInside d s l → length (items_in d s l) ≡ l.count
  items-length d l h = many-length d s l.count l.at l.end (items_in d s l) (sym (ends-items (decode_many l.count d s l.at) l.end h.0))

  few : {n m : ℕ} (k : ℕ) → n ≡ m → n < k → k ≤ 4294967296 → m < 4294967296
  few k e h b = omega arith

  address-fits : (a : Address) → ValidAddress (address_of a) → AddressFits a
  address-fits a v = (v.ip, v.port)

  record-fits : (r : Record) → RecordPlaced s r → ValidRecord (record_in s r) → RecordFits r
  record-fits r h v = (v.client, v.port, few 4294967296 (items-length decode_tag r.tags h.1) v.tags.0 (omega arith))

  triple-fits : (t : Triple) → ValidTriple (triple_of t) → TripleFits t
  triple-fits t v = (v.0, v.1.0, v.1.1)

  body-fits : (b : Body) → BodyPlaced s b → ValidValues (body_in s b).0 (body_in s b).1 → BodyFits b
  body-fits Body.Nothing h v = tt
  body-fits (Body.Query q) h v = tt
  body-fits (Body.Hash a) h v = tt
  body-fits (Body.Dword n) h v = v
  body-fits (Body.TwoDwords n m) h v = v
  body-fits (Body.Text t) h v = tt
  body-fits (Body.TwoTexts t u) h v = tt
  body-fits (Body.Address a) h v = address-fits a v
  body-fits (Body.Addresses l) h v = few 256 (items-length decode_address l h) v.0 (omega arith)
  body-fits (Body.HashAddresses a l) h v = few 256 (items-length decode_address l h.1) v.1.0 (omega arith)
  body-fits (Body.AddressDword a n) h v = (address-fits a v.0, v.1)
  body-fits (Body.HashAddressTags a b l) h v = (address-fits b v.1.0, few 4294967296 (items-length decode_tag l h.1) v.1.1.0 (omega arith))
  body-fits (Body.Record r) h v = record-fits r h v
  body-fits (Body.Records l) h v = few 4294967296 (items-length decode_record l h) v.0 (omega arith)
  body-fits (Body.RecordsFlag l b) h v = (few 4294967296 (items-length decode_record l h) v.0.0 (omega arith), omega (arith, v.1))
  body-fits (Body.RecordAddress r a) h v = (record-fits r h v.0, address-fits a v.1)
  body-fits (Body.Hello r a) h v = (record-fits r h v.0, address-fits a v.1)
  body-fits (Body.HashText a t) h v = tt
  body-fits (Body.Hashset a l) h v = few 65536 (items-length decode_hash l h.1) v.1.0 (omega arith)
  body-fits (Body.SendingPart p) h v = (v.start, v.end)
  body-fits (Body.RequestParts p) h v = (triple-fits p.starts v.starts, triple-fits p.ends v.ends)
  body-fits (Body.FileStatus p) h v = tt
  body-fits (Body.StatusRequest p) h v = v.number
  body-fits (Body.Status t) h v = triple-fits t v
  body-fits (Body.ExtendedStatus p) h v = (v.first, v.second, triple-fits p.numbers v.numbers)

  pub packet-fits : (link : messages.Link) (p : Packet) → BodyPlaced s p.body → ValidPacket link (packet_in s p) → PacketFits p
  packet-fits link p h v = (v.opening, v.opcode, body-fits p.body h v.values)

  pub list-fits : (l : Items) → ItemsInside decode_tag s l → ValidTags (items_in decode_tag s l) → ItemsFit l
  list-fits l h v = few 4294967296 (items-length decode_tag l h) v.0 (omega arith)

  pub known-fits : (m : KnownMet) → KnownMetPlaced s m → ValidKnownMet (known_met_in s m) → KnownFits m
  known-fits m h v = (met-byte v.opening, few 4294967296 (items-length decode_file_entry m.entries h) v.entries.0 (omega arith))

  pub server-fits : (m : ServerMet) → ServerMetPlaced s m → ValidServerMet (server_met_in s m) → ServerFits m
  server-fits m h v = (met-byte v.opening, few 4294967296 (items-length decode_server_entry m.entries h.0) v.entries.0 (omega arith))

  -- The lists of hashes are as long as the size asks.
  blocks-fit : (k : HashBlocks) (size : ℕ) → Dword size → BlocksPlaced s k → ValidHashBlocks size (blocks_in s k) → BlocksFit k
  unfolding ValidHashBlocks
  blocks-fit HashBlocks.Nothing size small h v = tt
  blocks-fit (HashBlocks.Parts l) size small h v = omega (arith, items-length decode_hash l h, v.0)
  blocks-fit (HashBlocks.Blocks k) size small h v = absurd v
  blocks-fit (HashBlocks.Both l k) size small h v =
      (omega (arith, items-length decode_hash l h.0, v.0.0), omega (arith, items-length (decode_run 8) k h.1, v.1.0))

  pub part-fits : (m : PartMet) → PartMetPlaced s m → ValidPartMet (part_met_in s m) → PartFits m
  unfolding ValidPartMet
  part-fits (PartMet.E0 e) h v =
      (v.entry.date, list-fits e.tags h.1.1 v.entry.tags, few 65536 (items-length decode_hash e.parts h.1.0) v.entry.parts.0 (omega arith))
  part-fits (PartMet.E1 m) h v =
      let small = size-dword v.size (items_in decode_tag s m.tags) v.tags v.sized.one in
      (v.date, list-fits m.tags h.1.0 v.tags, blocks-fit m.blocks v.size small h.1.1 v.blocks)

  pub size_fits : (m : PartMet) (size : ℕ) → PartMetSized s m size → ValidPartMet (part_met_in s m) → Dword size
  unfolding ValidPartMet
  size_fits (PartMet.E0 e) size z v = size-dword size (items_in decode_tag s e.tags) v.entry.tags (check-means (items_in decode_tag s e.tags) (size, items_in decode_tag s e.tags) z).1.0
  size_fits (PartMet.E1 m) size z v = size-dword size (items_in decode_tag s m.tags) v.tags (check-means (items_in decode_tag s m.tags) (size, items_in decode_tag s m.tags) z).1.0
