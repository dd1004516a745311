-- The numbers that the reading calls return, in the order of include/ed2k.h. A place of the code is its numbers: where it begins, then
-- where it ends or how long it is, then how many items it has.
use Rattle.std.specs.Prelude.{ℕ, ◌-◌, List, [], ◌∷◌, ◌++◌, length, replicate}
use Rattle.wire.specs.declared.Cursor.{Cursor}
use Rattle.wire.specs.declared.Place.{Place}
use Rattle.wire.specs.declared.Items.{Items}
use Rattle.tags.specs.declared.TagValue.{TagValue}
use Rattle.tags.specs.declared.Tag.{Tag}
use Rattle.query.specs.declared.Operator.{Operator}
use Rattle.query.specs.declared.Bound.{Bound}
use Rattle.query.specs.declared.Node.{Node}
use Rattle.query.specs.declared.Query.{Query}
use Rattle.records.specs.declared.Address.{Address}
use Rattle.records.specs.declared.Record.{Record}
use Rattle.bodies.specs.declared.Triple.{Triple}
use Rattle.bodies.specs.declared.Form.{Form}
use Rattle.bodies.specs.declared.Body.{Body}
use Rattle.packets.specs.declared.Packet.{Packet}
use Rattle.met.specs.declared.FileEntry.{FileEntry}
use Rattle.met.specs.declared.ServerEntry.{ServerEntry}
use Rattle.met.specs.declared.KnownMet.{KnownMet}
use Rattle.met.specs.declared.ServerMet.{ServerMet}
use Rattle.met.specs.declared.HashBlocks.{HashBlocks}
use Rattle.met.specs.declared.PartMet.{PartMet}
use Rattle.fields.specs.Shapes as shapes

-- Numbers, and 0 after them, n in all.
abbrev pub filled : ℕ → List ℕ → List ℕ
filled n l = l ++ replicate (n - length l) 0

abbrev pub place_numbers : Place → List ℕ
place_numbers p = p.at ∷ p.len ∷ []

abbrev pub items_numbers : Items → List ℕ
items_numbers l = l.at ∷ l.end ∷ l.count ∷ []

abbrev pub query_numbers : Query → List ℕ
query_numbers q = q.at ∷ q.end ∷ q.depth ∷ []

abbrev pub address_numbers : Address → List ℕ
address_numbers a = a.ip ∷ a.port ∷ []

abbrev pub record_numbers : Record → List ℕ
record_numbers r = r.hash ∷ r.client ∷ r.port ∷ items_numbers r.tags

abbrev pub triple_numbers : Triple → List ℕ
triple_numbers t = t.first ∷ t.second ∷ t.third ∷ []

abbrev pub spec_form_number : Form → ℕ
spec_form_number Form.Plain = 0
spec_form_number Form.Extended = 1

-- The shape of a body (ED2K_BODY_..) and its values.
abbrev pub body_numbers : Body → List ℕ
body_numbers Body.Nothing = shapes.nothing_shape ∷ []
body_numbers (Body.Query q) = shapes.query_shape ∷ query_numbers q
body_numbers (Body.Hash h) = shapes.hash_shape ∷ h ∷ []
body_numbers (Body.Dword n) = shapes.dword_shape ∷ n ∷ []
body_numbers (Body.TwoDwords m n) = shapes.two_dwords_shape ∷ m ∷ n ∷ []
body_numbers (Body.Text t) = shapes.text_shape ∷ place_numbers t
body_numbers (Body.TwoTexts t u) = shapes.two_texts_shape ∷ place_numbers t ++ place_numbers u
body_numbers (Body.Address a) = shapes.address_shape ∷ address_numbers a
body_numbers (Body.Addresses l) = shapes.addresses_shape ∷ items_numbers l
body_numbers (Body.HashAddresses h l) = shapes.hash_addresses_shape ∷ h ∷ items_numbers l
body_numbers (Body.AddressDword a n) = shapes.address_dword_shape ∷ address_numbers a ++ n ∷ []
body_numbers (Body.HashAddressTags h a l) = shapes.hash_address_tags_shape ∷ h ∷ address_numbers a ++ items_numbers l
body_numbers (Body.Record r) = shapes.record_shape ∷ record_numbers r
body_numbers (Body.Records l) = shapes.records_shape ∷ items_numbers l
body_numbers (Body.RecordsFlag l b) = shapes.records_flag_shape ∷ items_numbers l ++ b ∷ []
body_numbers (Body.RecordAddress r a) = shapes.record_address_shape ∷ record_numbers r ++ address_numbers a
body_numbers (Body.Hello r a) = shapes.hello_shape ∷ record_numbers r ++ address_numbers a
body_numbers (Body.HashText h t) = shapes.hash_text_shape ∷ h ∷ place_numbers t
body_numbers (Body.Hashset h l) = shapes.hashset_shape ∷ h ∷ items_numbers l
body_numbers (Body.SendingPart p) = shapes.sending_part_shape ∷ p.hash ∷ p.start ∷ p.end ∷ place_numbers p.data
body_numbers (Body.RequestParts p) = shapes.request_parts_shape ∷ p.hash ∷ triple_numbers p.starts ++ triple_numbers p.ends
body_numbers (Body.FileStatus f) = shapes.file_status_shape ∷ f.hash ∷ f.parts ∷ f.bits ∷ []
body_numbers (Body.StatusRequest r) = shapes.status_request_shape ∷ spec_form_number r.form ∷ r.number ∷ []
body_numbers (Body.Status t) = shapes.status_shape ∷ triple_numbers t
body_numbers (Body.ExtendedStatus e) = shapes.extended_status_shape ∷ e.first ∷ e.second ∷ triple_numbers e.numbers

abbrev pub spec_packet_numbers : Packet → List ℕ
spec_packet_numbers p = p.opening ∷ p.opcode ∷ body_numbers p.body

abbrev pub known_numbers : KnownMet → List ℕ
known_numbers m = m.opening ∷ items_numbers m.entries

abbrev pub server_numbers : ServerMet → List ℕ
server_numbers m = m.opening ∷ items_numbers m.entries ++ place_numbers m.tail

-- Which hash lists a part.met has (ED2K_HASHES_..), its part hashes and its block hashes.
abbrev pub no_items : Items
no_items = record { at = 0; end = 0; count = 0 }

abbrev pub hashes_numbers : ℕ → Items → Items → List ℕ
hashes_numbers which parts blocks = which ∷ items_numbers parts ++ items_numbers blocks

abbrev pub blocks_numbers : HashBlocks → List ℕ
blocks_numbers HashBlocks.Nothing = hashes_numbers shapes.no_hashes no_items no_items
blocks_numbers (HashBlocks.Parts p) = hashes_numbers shapes.part_hashes p no_items
blocks_numbers (HashBlocks.Blocks b) = hashes_numbers shapes.block_hashes no_items b
blocks_numbers (HashBlocks.Both p b) = hashes_numbers shapes.both_hashes p b

abbrev pub part_numbers : PartMet → ℕ → List ℕ
part_numbers (PartMet.E0 e) size =
    0xE0 ∷ size ∷ e.date ∷ e.hash ∷ items_numbers e.tags ++ hashes_numbers shapes.counted_hashes e.parts no_items
part_numbers (PartMet.E1 f) size = 0xE1 ∷ size ∷ f.date ∷ f.hash ∷ items_numbers f.tags ++ blocks_numbers f.blocks

-- The single items, with the cursor after them.

-- the type of a value, then what it holds; the name stands between
abbrev pub type_number : TagValue → ℕ
type_number (TagValue.Hash h) = 1
type_number (TagValue.Text t) = 2
type_number (TagValue.Dword n) = 3
type_number (TagValue.Float n) = 4

abbrev pub value_numbers : TagValue → List ℕ
value_numbers (TagValue.Hash h) = h ∷ 16 ∷ []
value_numbers (TagValue.Text t) = place_numbers t
value_numbers (TagValue.Dword n) = n ∷ 0 ∷ []
value_numbers (TagValue.Float n) = n ∷ 0 ∷ []

abbrev pub tag_numbers : Tag → Cursor → List ℕ
tag_numbers t next = next.at ∷ type_number t.value ∷ t.name_at ∷ t.name_len ∷ value_numbers t.value

abbrev pub file_entry_numbers : FileEntry → Cursor → List ℕ
file_entry_numbers e next = next.at ∷ e.date ∷ e.hash ∷ items_numbers e.parts ++ items_numbers e.tags

abbrev pub server_entry_numbers : ServerEntry → Cursor → List ℕ
server_entry_numbers e next = next.at ∷ e.ip ∷ e.port ∷ items_numbers e.tags

abbrev pub spec_operator_number : Operator → ℕ
spec_operator_number Operator.And = 0
spec_operator_number Operator.Or = 1
spec_operator_number Operator.AndNot = 2

abbrev pub spec_bound_number : Bound → ℕ
spec_bound_number Bound.AtLeast = 1
spec_bound_number Bound.AtMost = 2

-- which node it is; its operator; its text; its number and bound; its name
abbrev pub node_numbers : Node → Cursor → List ℕ
node_numbers (Node.Join o) next = next.at ∷ 0 ∷ spec_operator_number o ∷ []
node_numbers (Node.Keyword t) next = next.at ∷ 1 ∷ 0 ∷ place_numbers t
node_numbers (Node.Field t n) next = next.at ∷ 2 ∷ 0 ∷ place_numbers t ++ 0 ∷ 0 ∷ place_numbers n
node_numbers (Node.Limit v b n) next = next.at ∷ 3 ∷ 0 ∷ 0 ∷ 0 ∷ v ∷ spec_bound_number b ∷ place_numbers n
