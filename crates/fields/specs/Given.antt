-- The message that 16 given numbers would be those of. A number is taken as its field can hold it, by its low part; the shape or list of
-- hashes that no message has is taken as none. So the numbers of what is found here are the given ones exactly where these are the numbers
-- of a message whose own numbers its fields can hold (`PacketFits` and its like): proofs/Given has that such a message is found again.
use Rattle.std.specs.Prelude.{ℕ, ◌+◌, ◌%◌, List, [], ◌∷◌, get_or, eqb}
use Rattle.std.proofs.Math.Option.{Option, none, some}
use Rattle.format.specs.Tables.{pick, lookup}
use Rattle.format.specs.Rules.{Byte, Word, Dword}
use Rattle.wire.specs.declared.Place.{Place}
use Rattle.wire.specs.declared.Items.{Items}
use Rattle.query.specs.declared.Query.{Query}
use Rattle.records.specs.declared.Address.{Address}
use Rattle.records.specs.declared.Record.{Record}
use Rattle.bodies.specs.declared.Triple.{Triple}
use Rattle.bodies.specs.declared.Form.{Form}
use Rattle.bodies.specs.declared.Body.{Body}
use Rattle.packets.specs.declared.Packet.{Packet}
use Rattle.met.specs.declared.KnownMet.{KnownMet}
use Rattle.met.specs.declared.ServerMet.{ServerMet}
use Rattle.met.specs.declared.HashBlocks.{HashBlocks}
use Rattle.met.specs.declared.PartMet.{PartMet}
use Rattle.fields.specs.Shapes as shapes

abbrev pub number_at : List ℕ → ℕ → ℕ
number_at f i = get_or f i 0

abbrev pub byte_at : List ℕ → ℕ → ℕ
byte_at f i = number_at f i % 256

abbrev pub word_at : List ℕ → ℕ → ℕ
word_at f i = number_at f i % 65536

abbrev pub spec_dword_at : List ℕ → ℕ → ℕ
spec_dword_at f i = number_at f i % 4294967296

abbrev pub place_at : List ℕ → ℕ → Place
place_at f i = record { at = number_at f i; len = number_at f (i + 1) }

abbrev pub spec_items_at : List ℕ → ℕ → Items
spec_items_at f i = record { at = number_at f i; end = number_at f (i + 1); count = spec_dword_at f (i + 2) }

abbrev pub spec_query_at : List ℕ → ℕ → Query
spec_query_at f i = record { at = number_at f i; end = number_at f (i + 1); depth = number_at f (i + 2) }

abbrev pub spec_address_at : List ℕ → ℕ → Address
spec_address_at f i = record { ip = spec_dword_at f i; port = word_at f (i + 1) }

abbrev pub spec_record_at : List ℕ → ℕ → Record
spec_record_at f i = record { hash = number_at f i; client = spec_dword_at f (i + 1); port = word_at f (i + 2); tags = spec_items_at f (i + 3) }

abbrev pub spec_triple_at : List ℕ → ℕ → Triple
spec_triple_at f i = record { first = spec_dword_at f i; second = spec_dword_at f (i + 1); third = spec_dword_at f (i + 2) }

abbrev pub spec_form_at : List ℕ → ℕ → Form
spec_form_at f i = pick (eqb (number_at f i) 0) Form.Plain Form.Extended

abbrev pub sending_part_given : List ℕ → Body
sending_part_given f = Body.SendingPart (record { hash = number_at f 3; start = spec_dword_at f 4; end = spec_dword_at f 5; «data» = place_at f 6 })

abbrev pub request_parts_given : List ℕ → Body
request_parts_given f = Body.RequestParts (record { hash = number_at f 3; starts = spec_triple_at f 4; ends = spec_triple_at f 7 })

-- Any number of parts is taken: what the WORD of a status cannot count is the writer's to refuse (6), as a text that is too long is.
abbrev pub file_status_given : List ℕ → Body
file_status_given f = Body.FileStatus (record { hash = number_at f 3; parts = number_at f 4; bits = number_at f 5 })

abbrev pub status_request_given : List ℕ → Body
status_request_given f = Body.StatusRequest (record { form = spec_form_at f 3; number = spec_dword_at f 4 })

abbrev pub extended_status_given : List ℕ → Body
extended_status_given f = Body.ExtendedStatus (record { first = byte_at f 3; second = byte_at f 4; numbers = spec_triple_at f 5 })

-- The bodies that hold something, by their shapes, in the order of include/ed2k.h.
abbrev pub bodies_given : List ℕ → List (ℕ × Body)
bodies_given f =
    (shapes.query_shape, Body.Query (spec_query_at f 3)) ∷
    (shapes.hash_shape, Body.Hash (number_at f 3)) ∷
    (shapes.dword_shape, Body.Dword (spec_dword_at f 3)) ∷
    (shapes.two_dwords_shape, Body.TwoDwords (spec_dword_at f 3) (spec_dword_at f 4)) ∷
    (shapes.text_shape, Body.Text (place_at f 3)) ∷
    (shapes.two_texts_shape, Body.TwoTexts (place_at f 3) (place_at f 5)) ∷
    (shapes.address_shape, Body.Address (spec_address_at f 3)) ∷
    (shapes.addresses_shape, Body.Addresses (spec_items_at f 3)) ∷
    (shapes.hash_addresses_shape, Body.HashAddresses (number_at f 3) (spec_items_at f 4)) ∷
    (shapes.address_dword_shape, Body.AddressDword (spec_address_at f 3) (spec_dword_at f 5)) ∷
    (shapes.hash_address_tags_shape, Body.HashAddressTags (number_at f 3) (spec_address_at f 4) (spec_items_at f 6)) ∷
    (shapes.record_shape, Body.Record (spec_record_at f 3)) ∷
    (shapes.records_shape, Body.Records (spec_items_at f 3)) ∷
    (shapes.records_flag_shape, Body.RecordsFlag (spec_items_at f 3) (byte_at f 6)) ∷
    (shapes.record_address_shape, Body.RecordAddress (spec_record_at f 3) (spec_address_at f 9)) ∷
    (shapes.hello_shape, Body.Hello (spec_record_at f 3) (spec_address_at f 9)) ∷
    (shapes.hash_text_shape, Body.HashText (number_at f 3) (place_at f 4)) ∷
    (shapes.hashset_shape, Body.Hashset (number_at f 3) (spec_items_at f 4)) ∷
    (shapes.sending_part_shape, sending_part_given f) ∷
    (shapes.request_parts_shape, request_parts_given f) ∷
    (shapes.file_status_shape, file_status_given f) ∷
    (shapes.status_request_shape, status_request_given f) ∷
    (shapes.status_shape, Body.Status (spec_triple_at f 3)) ∷
    (shapes.extended_status_shape, extended_status_given f) ∷
    []

abbrev pub listed_body : Option Body → Body
listed_body none = Body.Nothing
listed_body (some b) = b

unfoldable pub spec_body_given : List ℕ → Body
spec_body_given f = listed_body (lookup (bodies_given f) (number_at f 2))

abbrev pub spec_packet_given : List ℕ → Packet
spec_packet_given f = record { opening = byte_at f 0; opcode = byte_at f 1; body = spec_body_given f }

abbrev pub spec_known_given : List ℕ → KnownMet
spec_known_given f = record { opening = byte_at f 0; entries = spec_items_at f 1 }

abbrev pub spec_server_given : List ℕ → ServerMet
spec_server_given f = record { opening = byte_at f 0; entries = spec_items_at f 1; tail = place_at f 4 }

-- The hash lists of a part.met that opens with E1, by which it has.
abbrev pub lists_given : List ℕ → List (ℕ × HashBlocks)
lists_given f =
    (shapes.part_hashes, HashBlocks.Parts (spec_items_at f 8)) ∷
    (shapes.block_hashes, HashBlocks.Blocks (spec_items_at f 11)) ∷
    (shapes.both_hashes, HashBlocks.Both (spec_items_at f 8) (spec_items_at f 11)) ∷
    []

abbrev pub listed_blocks : Option HashBlocks → HashBlocks
listed_blocks none = HashBlocks.Nothing
listed_blocks (some b) = b

unfoldable pub spec_blocks_given : List ℕ → HashBlocks
spec_blocks_given f = listed_blocks (lookup (lists_given f) (number_at f 7))

abbrev pub spec_e0_given : List ℕ → PartMet
spec_e0_given f = PartMet.E0 (record { date = spec_dword_at f 2; hash = number_at f 3; parts = spec_items_at f 8; tags = spec_items_at f 4 })

abbrev pub spec_e1_given : List ℕ → PartMet
spec_e1_given f = PartMet.E1 (record { date = spec_dword_at f 2; hash = number_at f 3; tags = spec_items_at f 4; blocks = spec_blocks_given f })

unfoldable pub spec_part_given : List ℕ → PartMet
spec_part_given f = pick (eqb (number_at f 0) 0xE0) (spec_e0_given f) (spec_e1_given f)

-- The size of a part.met is reported by its tags, and is not a value of its own: any number that a size can be is taken.
abbrev pub spec_size_given : List ℕ → ℕ
spec_size_given f = spec_dword_at f 1

-- Each number of a message is one that its field can hold. Places and lengths are 64-bit numbers, as the given ones are.
abbrev pub ItemsFit : Items → Type 0
ItemsFit l = Dword l.count

abbrev pub AddressFits : Address → Type 0
AddressFits a = Dword a.ip × Word a.port

abbrev pub RecordFits : Record → Type 0
RecordFits r = Dword r.client × Word r.port × ItemsFit r.tags

abbrev pub TripleFits : Triple → Type 0
TripleFits t = Dword t.first × Dword t.second × Dword t.third

abbrev pub BodyFits : Body → Type 0
BodyFits Body.Nothing = Unit {0}
BodyFits (Body.Query q) = Unit {0}
BodyFits (Body.Hash h) = Unit {0}
BodyFits (Body.Dword n) = Dword n
BodyFits (Body.TwoDwords m n) = Dword m × Dword n
BodyFits (Body.Text t) = Unit {0}
BodyFits (Body.TwoTexts t u) = Unit {0}
BodyFits (Body.Address a) = AddressFits a
BodyFits (Body.Addresses l) = ItemsFit l
BodyFits (Body.HashAddresses h l) = ItemsFit l
BodyFits (Body.AddressDword a n) = AddressFits a × Dword n
BodyFits (Body.HashAddressTags h a l) = AddressFits a × ItemsFit l
BodyFits (Body.Record r) = RecordFits r
BodyFits (Body.Records l) = ItemsFit l
BodyFits (Body.RecordsFlag l b) = ItemsFit l × Byte b
BodyFits (Body.RecordAddress r a) = RecordFits r × AddressFits a
BodyFits (Body.Hello r a) = RecordFits r × AddressFits a
BodyFits (Body.HashText h t) = Unit {0}
BodyFits (Body.Hashset h l) = ItemsFit l
BodyFits (Body.SendingPart p) = Dword p.start × Dword p.end
BodyFits (Body.RequestParts p) = TripleFits p.starts × TripleFits p.ends
BodyFits (Body.FileStatus f) = Unit {0}
BodyFits (Body.StatusRequest r) = Dword r.number
BodyFits (Body.Status t) = TripleFits t
BodyFits (Body.ExtendedStatus e) = Byte e.first × Byte e.second × TripleFits e.numbers

abbrev pub PacketFits : Packet → Type 0
PacketFits p = Byte p.opening × Byte p.opcode × BodyFits p.body

abbrev pub KnownFits : KnownMet → Type 0
KnownFits m = Byte m.opening × ItemsFit m.entries

abbrev pub ServerFits : ServerMet → Type 0
ServerFits m = Byte m.opening × ItemsFit m.entries

abbrev pub BlocksFit : HashBlocks → Type 0
BlocksFit HashBlocks.Nothing = Unit {0}
BlocksFit (HashBlocks.Parts l) = ItemsFit l
BlocksFit (HashBlocks.Blocks k) = ItemsFit k
BlocksFit (HashBlocks.Both l k) = ItemsFit l × ItemsFit k

abbrev pub PartFits : PartMet → Type 0
PartFits (PartMet.E0 e) = Dword e.date × ItemsFit e.tags × ItemsFit e.parts
PartFits (PartMet.E1 m) = Dword m.date × ItemsFit m.tags × BlocksFit m.blocks
