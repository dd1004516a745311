-- What a write is (01, "Order"): "A writer gives 6 for a text or list that its count field cannot hold; then 5 for a message whose
-- finished bytes spell another one; then the number that the reader would give for them; and 10 last."
use Rattle.std.specs.Prelude.{◌≡◌, List, ◌++◌, ℕ, length, drop, leb}
use Rattle.format.specs.Tables.{pick}
use Rattle.format.specs.Messages.{TagType, hash_type, string_type, dword_type, float_type, TagValue, Tag, Record, Query, join, keyword, field, limit}
use Rattle.format.specs.Messages.{Shape, Values, nothing_body, query_body, hash_body, dword_body, two_dwords_body, text_body, two_texts_body, address_body, addresses_body, hash_addresses_body, address_dword_body, hash_address_tags_body, record_body, records_body, records_flag_body, record_address_body, hello_body, hash_text_body, hashset_body, sending_part_body, request_parts_body, file_status_body, status_request_body, status_body}
use Rattle.format.specs.Messages.{FileEntry, ServerEntry, PartMet, e0, e1, Kind, server_link, client_link, udp_link, known_met, server_met, part_met, lone_query, lone_tags, Message}
use Rattle.format.specs.Layout.{encode}
use Rattle.format.specs.Rules.{All, Byte, Word, Dword}
use Rattle.format.specs.Decoding.{Fault, number, refusal, accepted}
use Rattle.format.specs.MetOrder.{decode}

-- Every text and list of a message fits its count field. A name has a String's field here: its own limit is a rule of the reader.

abbrev pub StringFits : List ℕ → Type 0
StringFits t = Word (length t)

abbrev pub ValueFits : (t : TagType) → TagValue t → Type 0
ValueFits hash_type v = Unit {0}
ValueFits string_type v = StringFits v
ValueFits dword_type v = Unit {0}
ValueFits float_type v = Unit {0}

abbrev pub TagFits : Tag → Type 0
TagFits t = StringFits t.name × ValueFits t.value.0 t.value.1

abbrev pub TagsFit : List Tag → Type 0
TagsFit l = Dword (length l) × All TagFits l

abbrev pub RecordFits : Record → Type 0
RecordFits r = TagsFit r.tags

abbrev pub RecordsFit : List Record → Type 0
RecordsFit l = Dword (length l) × All RecordFits l

unfoldable pub QueryFits : Query → Type 0
QueryFits (join o q r) = QueryFits q × QueryFits r
QueryFits (keyword t) = StringFits t
QueryFits (field t n) = StringFits t × StringFits n
QueryFits (limit v b n) = StringFits n

abbrev pub ValuesFit : (s : Shape) → Values s → Type 0
ValuesFit nothing_body v = Unit {0}
ValuesFit query_body v = QueryFits v
ValuesFit hash_body v = Unit {0}
ValuesFit dword_body v = Unit {0}
ValuesFit two_dwords_body v = Unit {0}
ValuesFit text_body v = StringFits v
ValuesFit two_texts_body v = StringFits v.0 × StringFits v.1
ValuesFit address_body v = Unit {0}
ValuesFit addresses_body v = Byte (length v)
ValuesFit hash_addresses_body v = Byte (length v.1)
ValuesFit address_dword_body v = Unit {0}
ValuesFit hash_address_tags_body v = TagsFit v.1.1
ValuesFit record_body v = RecordFits v
ValuesFit records_body v = RecordsFit v
ValuesFit records_flag_body v = RecordsFit v.0
ValuesFit record_address_body v = RecordFits v.0
ValuesFit hello_body v = RecordFits v.0
ValuesFit hash_text_body v = StringFits v.1
ValuesFit hashset_body v = Word (length v.1)
ValuesFit sending_part_body v = Unit {0}
ValuesFit request_parts_body v = Unit {0}
ValuesFit file_status_body v = Word (length v.held)
ValuesFit status_request_body v = Unit {0}
ValuesFit status_body v = Unit {0}

abbrev pub FileEntryFits : FileEntry → Type 0
FileEntryFits e = Word (length e.parts) × TagsFit e.tags

abbrev pub ServerEntryFits : ServerEntry → Type 0
ServerEntryFits e = TagsFit e.tags

unfoldable pub PartMetFits : PartMet → Type 0
PartMetFits (e0 e) = FileEntryFits e
PartMetFits (e1 m) = TagsFit m.tags

abbrev pub CountsFit : (k : Kind) → Message k → Type 0
CountsFit server_link m = ValuesFit m.body.0 m.body.1
CountsFit client_link m = ValuesFit m.body.0 m.body.1
CountsFit udp_link m = ValuesFit m.body.0 m.body.1
CountsFit known_met m = Dword (length m.entries) × All FileEntryFits m.entries
CountsFit server_met m = Dword (length m.entries) × All ServerEntryFits m.entries
CountsFit part_met m = PartMetFits m
CountsFit lone_query m = QueryFits m
CountsFit lone_tags m = TagsFit m

-- The number that a writer gives for a message before it checks the room.
pub data Judged (k : Kind) (m : Message k) : ℕ → Type 0 where
  overflows : (CountsFit k m → ⊥) → Judged k m 6
  another : CountsFit k m → (n : Message k) → (n ≡ m → ⊥) → decode k (encode k m) ≡ accepted n → Judged k m 5
  refused_for : CountsFit k m → (f : Fault) → decode k (encode k m) ≡ refusal f → Judged k m (number f.rule)
  fine : CountsFit k m → decode k (encode k m) ≡ accepted m → Judged k m 0

-- What a lent output holds after bytes were written at its front: only those bytes change.
abbrev pub overwritten : List ℕ → List ℕ → List ℕ
overwritten bytes old = bytes ++ drop (length bytes) old

-- The answer of a call that writes: a number, how many bytes were written, and the output afterwards. A refusal has length 0
-- and leaves the output as it was.
pub record Written : Type 0 where
  pub number : ℕ
  pub length : ℕ
  pub output : List ℕ

abbrev pub unwritten : ℕ → List ℕ → Written
unwritten number output = record { number = number; length = 0; output = output }

-- 10 comes last: room equal to the length is enough.
abbrev pub written_into : List ℕ → List ℕ → Written
written_into bytes output =
    pick (leb (length bytes) (length output))
    (record { number = 0; length = length bytes; output = overwritten bytes output })
    (unwritten 10 output)

-- A write of a message into an output.
pub data Writes (k : Kind) (m : Message k) (output : List ℕ) : Written → Type 0 where
  refuses : (number : ℕ) → Judged k m number → (number ≡ 0 → ⊥) → Writes k m output (unwritten number output)
  tries : Judged k m 0 → Writes k m output (written_into (encode k m) output)
