-- What the calls leave in what C lent them.
use Rattle.std.specs.Prelude.{ℕ, ◌≡◌, cond, List, [], ◌∷◌, length, take, leb}
use Rattle.std.proofs.Math.Option.{Option, none, some}
use Rattle.format.specs.Tables.{pick}
use Rattle.format.specs.Messages as messages
use Rattle.format.specs.Messages.{server_link, client_link, udp_link, known_met, server_met, part_met, lone_query, lone_tags}
use Rattle.format.specs.Decoding as decoding
use Rattle.format.specs.Decoding.{Outcome, refused, got, reply, ends}
use Rattle.format.specs.Order.{decode_tag, decode_record, decode_query}
use Rattle.format.specs.MetOrder.{decode, decode_file_entry, decode_server_entry}
use Rattle.format.specs.Writing.{Written, unwritten, overwritten}
use Rattle.format.specs.Truth.{TruthReply}
use Rattle.format.specs.Reasons.{Explains}
use Rattle.wire.specs.declared.Fault.{Fault}
use Rattle.wire.specs.declared.Items.{Items}
use Rattle.wire.specs.WireAnswers.{Step, items_in, rule_meaning}
use Rattle.tags.specs.declared.Tag.{Tag}
use Rattle.tags.specs.TagAnswers.{tag_meaning, TagStepInside, tag_list_reply, TagListPlaced}
use Rattle.query.specs.declared.Node.{Node}
use Rattle.query.specs.declared.Query.{Query}
use Rattle.query.specs.Nodes.{decode_node}
use Rattle.query.specs.QueryAnswers.{node_meaning, NodeStepInside, query_in, query_reply, QueryAnswerPlaced}
use Rattle.records.specs.declared.Record.{Record}
use Rattle.records.specs.RecordAnswers.{record_meaning, RecordStepPlaced}
use Rattle.met.specs.declared.FileEntry.{FileEntry}
use Rattle.met.specs.declared.ServerEntry.{ServerEntry}
use Rattle.met.specs.MetAnswers.{file_entry_meaning, FileEntryStepPlaced, server_entry_meaning, ServerEntryStepPlaced, known_met_in, server_met_in, part_met_in}
use Rattle.packets.specs.declared.Link.{Link}
use Rattle.packets.specs.declared.Packet.{Packet}
use Rattle.packets.specs.PacketAnswers.{PacketPlaced, answer_of, link_reply, packet_reply, step_reason}
pub use Rattle.packets.specs.PacketAnswers.{link_kind}
use Rattle.read_any.specs.declared.Message.{Message}
use Rattle.read_any.specs.AnyAnswers.{answer_in, AnswerPlaced}
use Rattle.write_items.specs.There.{items_there, no_places}
use Rattle.format.specs.RoundTrip.{RoundTrip, WritesAt}
use Rattle.write_packets.specs.Packets as packet_writes
use Rattle.write_packets.specs.Packets.{packet_of, packet_there}
use Rattle.write_met.specs.MetWrites.{known_there, server_there}
use Rattle.write_part.specs.PartWrites.{part_there}
use Rattle.write_items.specs.Writers.{join_of, sides_there}
use Rattle.fields.specs.Fields.{filled, items_numbers, query_numbers, record_numbers, spec_packet_numbers, known_numbers, server_numbers, part_numbers}
use Rattle.fields.specs.Fields.{tag_numbers, file_entry_numbers, server_entry_numbers, node_numbers}
use Rattle.fields.specs.Given.{spec_items_at, spec_query_at, spec_packet_given, spec_known_given, spec_server_given, spec_part_given, spec_size_given}
use Rattle.why.specs.WhyAnswers.{spec_reason_numbers}
use Rattle.ed2k.specs.declared.PacketSource.{PacketSource}
use Rattle.std.specs.Prelude.{Result, Ok, Err}
use Rattle.wire.specs.declared.Rule.{Rule}

-- The answer of a call that returns numbers: its own number, and the array afterwards.
pub record Numbered : Type 0 where
  pub number : ℕ
  pub numbers : List ℕ

abbrev pub numbered : ℕ → List ℕ → Numbered
numbered number numbers = record { number = number; numbers = numbers }

-- The numbers at the front of the array, or 10 where it has fewer places.
abbrev pub handed_out : List ℕ → List ℕ → Numbered
handed_out numbers old = pick (leb (length numbers) (length old)) (numbered 0 (overwritten numbers old)) (numbered 10 old)

-- The 16 numbers of what was read.
abbrev pub fields_out : List ℕ → List ℕ → Numbered
fields_out numbers old = handed_out (filled 16 numbers) old

abbrev pub fault_number : Fault → ℕ
fault_number f = decoding.number (rule_meaning f.rule)

-- Reading. Each call has an answer of the reader that it calls, as that reader ensures it, and returns its numbers.

abbrev pub message_numbers : Message → List ℕ
message_numbers (Message.Packet p) = spec_packet_numbers p
message_numbers (Message.KnownMet m) = known_numbers m
message_numbers (Message.ServerMet m) = server_numbers m
message_numbers (Message.PartMet m size) = part_numbers m size

abbrev pub rule_number : Rule → ℕ
rule_number rule = decoding.number (rule_meaning rule)

abbrev pub message_read : Result Message Rule → List ℕ → Numbered
message_read (Ok m) old = fields_out (message_numbers m) old
message_read (Err rule) old = numbered (rule_number rule) old

-- The answer of a kind's own reader as that of the one reading call.
abbrev pub as_message : {A : Type 0} → (A → Message) → Result A Rule → Result Message Rule
as_message message (Ok a) = Ok (message a)
as_message message (Err rule) = Err rule

abbrev pub query_read : Result Query Rule → List ℕ → Numbered
query_read (Ok q) old = fields_out (query_numbers q) old
query_read (Err rule) old = numbered (rule_number rule) old

abbrev pub tag_list_read : Result Items Rule → List ℕ → Numbered
tag_list_read (Ok l) old = fields_out (items_numbers l) old
tag_list_read (Err rule) old = numbered (rule_number rule) old

abbrev pub MessageRead : messages.Kind → List ℕ → List ℕ → Numbered → Type 0
MessageRead k s old r =
    (a : Result Message Rule) × (answer_in k s a ≡ some (reply (decode k s))) × AnswerPlaced s a × (r ≡ message_read a old)

-- A packet that bytes are on a link, as its reader ensures it, or one that was given.
abbrev pub PacketFrom : PacketSource → List ℕ → Result Packet Rule → Type 0
PacketFrom (PacketSource.Read link) s a = (packet_reply s a ≡ link_reply link s) × PacketPlaced s a
PacketFrom (PacketSource.Given p) s a = a ≡ Ok p

abbrev pub PacketOut : PacketSource → List ℕ → List ℕ → Numbered → Type 0
PacketOut source s old r = (a : Result Packet Rule) × PacketFrom source s a × (r ≡ message_read (as_message Message.Packet a) old)

-- The same of a step: where the bytes are no packet, its fault is the reason.
abbrev pub StepFrom : PacketSource → List ℕ → Result Packet Fault → Type 0
StepFrom (PacketSource.Read link) s a =
    (packet_reply s (answer_of a) ≡ link_reply link s) × (PacketPlaced s (answer_of a) × Explains (link_kind link) s (step_reason a))
StepFrom (PacketSource.Given p) s a = a ≡ Ok p

-- The numbers of a reason, as far as there is room for them; where there is none, all as it was.
abbrev pub reason_left : Option decoding.Fault → List ℕ → List ℕ
reason_left none old = old
reason_left (some f) old = (handed_out (spec_reason_numbers (some f)) old).numbers

-- The packet's numbers, if there is room for them, or the numbers of the reason why it is none.
pub record StepOut (source : PacketSource) (s old old_reason : List ℕ) (r : Numbered) (reason : List ℕ) : Type 0 where
  pub step : Result Packet Fault
  pub from : StepFrom source s step
  pub left : r ≡ message_read (as_message Message.Packet (answer_of step)) old
  pub because : reason ≡ reason_left (step_reason step) old_reason

abbrev pub QueryRead : List ℕ → List ℕ → Numbered → Type 0
QueryRead s old r =
    (a : Result Query Rule) × (query_reply s a ≡ reply (decode lone_query s)) × QueryAnswerPlaced s a × (r ≡ query_read a old)

abbrev pub TagListRead : List ℕ → List ℕ → Numbered → Type 0
TagListRead s old r =
    (a : Result Items Rule) × (tag_list_reply s a ≡ reply (decode lone_tags s)) × TagListPlaced s a × (r ≡ tag_list_read a old)

abbrev pub KindRead : messages.Kind → List ℕ → List ℕ → Numbered → Type 0
KindRead server_link s old r = MessageRead server_link s old r
KindRead client_link s old r = MessageRead client_link s old r
KindRead udp_link s old r = MessageRead udp_link s old r
KindRead known_met s old r = MessageRead known_met s old r
KindRead server_met s old r = MessageRead server_met s old r
KindRead part_met s old r = MessageRead part_met s old r
KindRead lone_query s old r = QueryRead s old r
KindRead lone_tags s old r = TagListRead s old r

abbrev pub kinds : List (ℕ × messages.Kind)
kinds =
    (0, server_link) ∷ (1, client_link) ∷ (2, udp_link) ∷ (3, known_met) ∷ (4, server_met) ∷ (5, part_met) ∷ (6, lone_query) ∷ (7, lone_tags) ∷ []

abbrev pub ReadOf : Option messages.Kind → List ℕ → List ℕ → Numbered → Type 0
ReadOf none s old r = r ≡ numbered 4 old
ReadOf (some k) s old r = KindRead k s old r

-- One item at an offset.

abbrev pub tag_read : Step Tag → List ℕ → Numbered
tag_read (Ok (t, next)) old = fields_out (tag_numbers t next) old
tag_read (Err f) old = numbered (fault_number f) old

abbrev pub TagRead : List ℕ → ℕ → List ℕ → Numbered → Type 0
TagRead s at old r = (a : Step Tag) × (tag_meaning s a ≡ decode_tag s at) × TagStepInside s a × (r ≡ tag_read a old)

-- an address has no place in it: what was decoded says all
abbrev pub address_read : Outcome messages.Address → List ℕ → Numbered
address_read (got a next) old = fields_out (next ∷ a.ip ∷ a.port ∷ []) old
address_read (refused f) old = numbered (decoding.number f.rule) old

abbrev pub record_read : Step Record → List ℕ → Numbered
record_read (Ok (r, next)) old = fields_out (next.at ∷ record_numbers r) old
record_read (Err f) old = numbered (fault_number f) old

abbrev pub RecordRead : List ℕ → ℕ → List ℕ → Numbered → Type 0
RecordRead s at old r = (a : Step Record) × (record_meaning s a ≡ decode_record s at) × RecordStepPlaced s a × (r ≡ record_read a old)

abbrev pub file_entry_read : Step FileEntry → List ℕ → Numbered
file_entry_read (Ok (e, next)) old = fields_out (file_entry_numbers e next) old
file_entry_read (Err f) old = numbered (fault_number f) old

abbrev pub FileEntryRead : List ℕ → ℕ → List ℕ → Numbered → Type 0
FileEntryRead s at old r =
    (a : Step FileEntry) × (file_entry_meaning s a ≡ decode_file_entry s at) × FileEntryStepPlaced s a × (r ≡ file_entry_read a old)

abbrev pub server_entry_read : Step ServerEntry → List ℕ → Numbered
server_entry_read (Ok (e, next)) old = fields_out (server_entry_numbers e next) old
server_entry_read (Err f) old = numbered (fault_number f) old

abbrev pub ServerEntryRead : List ℕ → ℕ → List ℕ → Numbered → Type 0
ServerEntryRead s at old r =
    (a : Step ServerEntry) × (server_entry_meaning s a ≡ decode_server_entry s at) × ServerEntryStepPlaced s a × (r ≡ server_entry_read a old)

abbrev pub node_read : Step Node → List ℕ → Numbered
node_read (Ok (n, next)) old = fields_out (node_numbers n next) old
node_read (Err f) old = numbered (fault_number f) old

abbrev pub NodeRead : List ℕ → ℕ → List ℕ → Numbered → Type 0
NodeRead s at old r = (a : Step Node) × (node_meaning s a ≡ decode_node s at) × NodeStepInside s a × (r ≡ node_read a old)

-- Writing: what a call leaves is a write of the format, and so has length 0 where it refuses.
abbrev pub leaves : (number length : ℕ) → (output : List ℕ) → Written
leaves number length output = record { number = number; length = length; output = output }

-- A message that is reported by its numbers: the first 16 given ones are those of the message, which is written; or they are no message's, and
-- the call refuses (5) before all else. Numbers of a message that a count field cannot hold, as 256 addresses or 65,536 status bits, are
-- a message's: its write refuses (6).
pub data GivenWrites (numbers given output : List ℕ) (Writes : Written → Type 0) : Written → Type 0 where
  no_message : (filled 16 numbers ≡ take 16 given → ⊥) → GivenWrites numbers given output Writes (unwritten 5 output)
  message : {w : Written} → filled 16 numbers ≡ take 16 given → Writes w → GivenWrites numbers given output Writes w

-- A write of the message that lies at places of s, and its round trip.
abbrev pub WritesBack : (k : messages.Kind) → Outcome (Unit {0}) → messages.Message k → List ℕ → Written → Type 0
WritesBack k there m output w = WritesAt k there m output w × RoundTrip k there m output w

abbrev pub QueryWritten : List ℕ → Query → List ℕ → Written → Type 0
QueryWritten s q output w = WritesBack lone_query (ends (decode_query s q.at)) (query_in s q) output w

abbrev pub TagListWritten : List ℕ → Items → List ℕ → Written → Type 0
TagListWritten s l output w = WritesBack lone_tags (items_there decode_tag s l) (items_in decode_tag s l) output w

-- A query from its pieces has no places; a join has its sides.
abbrev pub PiecesWritten : messages.Query → List ℕ → Written → Type 0
PiecesWritten q output w = WritesBack lone_query no_places q output w

abbrev pub JoinWritten : messages.Operator → (left right : decoding.Answer messages.Query) → List ℕ → Written → Type 0
JoinWritten o left right output w = WritesBack lone_query (sides_there left right) (join_of o left right) output w

abbrev pub PacketWrites : Link → List ℕ → List ℕ → List ℕ → Written → Type 0
PacketWrites link s given output w =
    let p = spec_packet_given given in
    GivenWrites (spec_packet_numbers p) given output (WritesBack (packet_writes.kind_of link) (packet_there link s p) (packet_of link s p) output) w

abbrev pub KnownWrites : List ℕ → List ℕ → List ℕ → Written → Type 0
KnownWrites s given output w =
    let m = spec_known_given given in
    GivenWrites (known_numbers m) given output (WritesBack known_met (known_there s m) (known_met_in s m) output) w

abbrev pub ServerWrites : List ℕ → List ℕ → List ℕ → Written → Type 0
ServerWrites s given output w =
    let m = spec_server_given given in
    GivenWrites (server_numbers m) given output (WritesBack server_met (server_there s m) (server_met_in s m) output) w

abbrev pub PartWrites : List ℕ → List ℕ → List ℕ → Written → Type 0
PartWrites s given output w =
    let m = spec_part_given given in
    GivenWrites (part_numbers m (spec_size_given given)) given output (WritesBack part_met (part_there s m) (part_met_in s m) output) w

abbrev pub QueryWrites : List ℕ → List ℕ → List ℕ → Written → Type 0
QueryWrites s given output w =
    let q = spec_query_at given 0 in
    GivenWrites (query_numbers q) given output (QueryWritten s q output) w

abbrev pub TagListWrites : List ℕ → List ℕ → List ℕ → Written → Type 0
TagListWrites s given output w =
    let l = spec_items_at given 0 in
    GivenWrites (items_numbers l) given output (TagListWritten s l output) w

abbrev pub KindWrites : messages.Kind → List ℕ → List ℕ → List ℕ → Written → Type 0
KindWrites server_link s given output w = PacketWrites Link.Server s given output w
KindWrites client_link s given output w = PacketWrites Link.Client s given output w
KindWrites udp_link s given output w = PacketWrites Link.Udp s given output w
KindWrites known_met s given output w = KnownWrites s given output w
KindWrites server_met s given output w = ServerWrites s given output w
KindWrites part_met s given output w = PartWrites s given output w
KindWrites lone_query s given output w = QueryWrites s given output w
KindWrites lone_tags s given output w = TagListWrites s given output w

-- A kind that is not listed: 4, before all else.
abbrev pub WriteOf : Option messages.Kind → List ℕ → List ℕ → List ℕ → Written → Type 0
WriteOf none s given output w = w ≡ unwritten 4 output
WriteOf (some k) s given output w = KindWrites k s given output w

-- A list that is given by its offset and count alone, and a query by its offset: no writer reads the end or the depth.
abbrev pub items_from : ℕ → ℕ → Items
items_from at count = record { at = at; end = at; count = count }

abbrev pub query_from : ℕ → Query
query_from at = record { at = at; end = at; depth = 0 }

-- The truth of a query, 0 or 1: 0 where it is refused.
abbrev pub truth_byte : TruthReply → ℕ
truth_byte t = cond t.holds 1 0

-- A bound or an operator that is none of the list: 5, before all else.
abbrev pub Chosen : {K : Type 0} → Option K → (K → Written → Type 0) → List ℕ → Written → Type 0
Chosen none Writes output w = w ≡ unwritten 5 output
Chosen (some k) Writes output w = Writes k w

abbrev pub bounds : List (ℕ × messages.Bound)
bounds = (1, messages.at_least) ∷ (2, messages.at_most) ∷ []

abbrev pub operators : List (ℕ × messages.Operator)
operators = (0, messages.and) ∷ (1, messages.or) ∷ (2, messages.and_not) ∷ []
