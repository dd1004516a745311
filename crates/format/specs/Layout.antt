-- What a message's bytes are (01: the bytes that the layouts spell from it): its items in order, low byte first, with the
-- counts and the header length worked out from its texts, names, lists and body. No word of reading.
use Rattle.std.specs.Prelude.{List, [], ◌∷◌, ◌++◌, ◌⊎◌, ℕ, zero, suc, ◌/◌, ◌%◌, length}
use Rattle.std.proofs.Common.{inl, inr}
use Rattle.format.specs.Bits.{pack_bits}
use Rattle.format.specs.Messages.{Address, TagType, hash_type, string_type, dword_type, float_type, TagValue, Tag, Record}
use Rattle.format.specs.Messages.{Operator, and, or, and_not, Bound, at_least, at_most, Query, join, keyword, field, limit}
use Rattle.format.specs.Messages.{SendingPart, Triple, RequestParts, FileStatus, StatusRequest, ExtendedStatus, Shape, Values, Packet}
use Rattle.format.specs.Messages.{nothing_body, query_body, hash_body, dword_body, two_dwords_body, text_body, two_texts_body, address_body, addresses_body, hash_addresses_body, address_dword_body, hash_address_tags_body, record_body, records_body, records_flag_body, record_address_body, hello_body, hash_text_body, hashset_body, sending_part_body, request_parts_body, file_status_body, status_request_body, status_body}
use Rattle.format.specs.Messages.{FileEntry, KnownMet, ServerEntry, ServerMet, HashBlocks, no_blocks, part_block, block_block, both_blocks, PartE1, PartMet, e0, e1}
use Rattle.format.specs.Messages.{Kind, server_link, client_link, udp_link, known_met, server_met, part_met, lone_query, lone_tags, Message}

-- Items

-- The bytes of each element, in order.
abbrev pub encode_all : {A : Type 0} → (A → List ℕ) → List A → List ℕ
encode_all encode [] = []
encode_all encode (a ∷ l) = encode a ++ encode_all encode l

-- A number in k bytes, low byte first.
unfoldable pub little_endian : ℕ → ℕ → List ℕ
little_endian zero n = []
little_endian (suc k) n = n % 256 ∷ little_endian k (n / 256)

abbrev pub byte : ℕ → List ℕ
byte n = little_endian 1 n

abbrev pub word : ℕ → List ℕ
word n = little_endian 2 n

abbrev pub dword : ℕ → List ℕ
dword n = little_endian 4 n

-- A list after its count.
abbrev pub counted : {A : Type 0} → (ℕ → List ℕ) → (A → List ℕ) → List A → List ℕ
counted count encode l = count (length l) ++ encode_all encode l

abbrev pub encode_hash : List ℕ → List ℕ
encode_hash h = h

-- 01's String: WORD, then that many bytes. A name is laid out the same way.
unfoldable pub encode_string : List ℕ → List ℕ
encode_string t = word (length t) ++ t

unfoldable pub encode_name : List ℕ → List ℕ
encode_name t = word (length t) ++ t

unfoldable pub encode_address : Address → List ℕ
encode_address a = dword a.ip ++ word a.port

abbrev pub type_code : TagType → ℕ
type_code hash_type = 1
type_code string_type = 2
type_code dword_type = 3
type_code float_type = 4

abbrev pub encode_value : (t : TagType) → TagValue t → List ℕ
encode_value hash_type v = encode_hash v
encode_value string_type v = encode_string v
encode_value dword_type v = dword v
encode_value float_type v = dword v

unfoldable pub encode_tag : Tag → List ℕ
encode_tag t = byte (type_code t.value.0) ++ (encode_name t.name ++ encode_value t.value.0 t.value.1)

unfoldable pub encode_tags : List Tag → List ℕ
encode_tags l = counted dword encode_tag l

unfoldable pub encode_record : Record → List ℕ
encode_record r = encode_hash r.hash ++ (dword r.client ++ (word r.port ++ encode_tags r.tags))

abbrev pub operator_code : Operator → ℕ
operator_code and = 0
operator_code or = 1
operator_code and_not = 2

abbrev pub bound_code : Bound → ℕ
bound_code at_least = 1
bound_code at_most = 2

unfoldable pub encode_query : Query → List ℕ
encode_query (join o q r) = byte 0 ++ (byte (operator_code o) ++ (encode_query q ++ encode_query r))
encode_query (keyword t) = byte 1 ++ encode_string t
encode_query (field t n) = byte 2 ++ (encode_string t ++ encode_name n)
encode_query (limit v b n) = byte 3 ++ (dword v ++ (byte (bound_code b) ++ encode_name n))

-- Packets

unfoldable pub encode_sending_part : SendingPart → List ℕ
encode_sending_part m = encode_hash m.hash ++ ((dword m.start ++ dword m.end) ++ m.bytes)

abbrev pub encode_triple : Triple → List ℕ
encode_triple t = dword t.0 ++ (dword t.1.0 ++ dword t.1.1)

unfoldable pub encode_request_parts : RequestParts → List ℕ
encode_request_parts m = encode_hash m.hash ++ (encode_triple m.starts ++ encode_triple m.ends)

-- The number of parts, then a bit for each: part p is bit p mod 8 of byte p / 8 (Bits), unused bits are 0.
unfoldable pub encode_file_status : FileStatus → List ℕ
encode_file_status m = encode_hash m.hash ++ (word (length m.held) ++ pack_bits m.held)

abbrev pub encode_status_request : StatusRequest → List ℕ
encode_status_request m = dword m.number

unfoldable pub encode_extended_status : ExtendedStatus → List ℕ
encode_extended_status m = byte m.first ++ (byte m.second ++ (byte 0xAA ++ (byte 0x5A ++ encode_triple m.numbers)))

abbrev pub either {κ} : {A B : Type 0} {C : Type κ} → (A → C) → (B → C) → A ⊎ B → C
either f g (inl a) = f a
either f g (inr b) = g b

abbrev pub encode_values : (s : Shape) → Values s → List ℕ
encode_values nothing_body v = []
encode_values query_body v = encode_query v
encode_values hash_body v = encode_hash v
encode_values dword_body v = dword v
encode_values two_dwords_body v = dword v.0 ++ dword v.1
encode_values text_body v = encode_string v
encode_values two_texts_body v = encode_string v.0 ++ encode_string v.1
encode_values address_body v = encode_address v
encode_values addresses_body v = counted byte encode_address v
encode_values hash_addresses_body v = encode_hash v.0 ++ counted byte encode_address v.1
encode_values address_dword_body v = encode_address v.0 ++ dword v.1
encode_values hash_address_tags_body v = encode_hash v.0 ++ (encode_address v.1.0 ++ encode_tags v.1.1)
encode_values record_body v = encode_record v
encode_values records_body v = counted dword encode_record v
encode_values records_flag_body v = counted dword encode_record v.0 ++ byte v.1
encode_values record_address_body v = encode_record v.0 ++ encode_address v.1
encode_values hello_body v = byte 0x10 ++ (encode_record v.0 ++ encode_address v.1)
encode_values hash_text_body v = encode_hash v.0 ++ encode_string v.1
encode_values hashset_body v = encode_hash v.0 ++ counted word encode_hash v.1
encode_values sending_part_body v = encode_sending_part v
encode_values request_parts_body v = encode_request_parts v
encode_values file_status_body v = encode_file_status v
encode_values status_request_body v = encode_status_request v
encode_values status_body v = either encode_triple encode_extended_status v

unfoldable pub encode_body : Packet → List ℕ
encode_body m = byte m.opcode ++ encode_values m.body.0 m.body.1

-- TCP: the length of opcode and body stands before them. UDP has no length (003).
unfoldable pub encode_tcp : Packet → List ℕ
encode_tcp m = byte m.opening ++ (dword (length (encode_body m)) ++ encode_body m)

unfoldable pub encode_udp : Packet → List ℕ
encode_udp m = byte m.opening ++ encode_body m

-- Met files

unfoldable pub encode_file_entry : FileEntry → List ℕ
encode_file_entry e =
    dword e.date ++ (encode_hash e.hash ++ (counted word encode_hash e.parts ++ encode_tags e.tags))

unfoldable pub encode_known_met : KnownMet → List ℕ
encode_known_met m = byte m.opening ++ counted dword encode_file_entry m.entries

unfoldable pub encode_server_entry : ServerEntry → List ℕ
encode_server_entry e = dword e.ip ++ (word e.port ++ encode_tags e.tags)

unfoldable pub encode_server_met : ServerMet → List ℕ
encode_server_met m = byte m.opening ++ (counted dword encode_server_entry m.entries ++ m.tail)

-- A block is 01 and its hashes; 00 closes the file.
unfoldable pub encode_hash_blocks : HashBlocks → List ℕ
encode_hash_blocks no_blocks = byte 0
encode_hash_blocks (part_block l) = byte 1 ++ (encode_all encode_hash l ++ byte 0)
encode_hash_blocks (block_block k) = byte 1 ++ (encode_all encode_hash k ++ byte 0)
encode_hash_blocks (both_blocks l k) = byte 1 ++ (encode_all encode_hash l ++ (byte 1 ++ (encode_all encode_hash k ++ byte 0)))

unfoldable pub encode_part_e1 : PartE1 → List ℕ
encode_part_e1 m =
    byte 0x02 ++ (dword m.date ++ (encode_hash m.hash ++ (encode_tags m.tags ++ encode_hash_blocks m.blocks)))

unfoldable pub encode_part_met : PartMet → List ℕ
encode_part_met (e0 e) = byte 0xE0 ++ encode_file_entry e
encode_part_met (e1 m) = byte 0xE1 ++ encode_part_e1 m

-- Every kind

abbrev pub encode : (k : Kind) → Message k → List ℕ
encode server_link m = encode_tcp m
encode client_link m = encode_tcp m
encode udp_link m = encode_udp m
encode known_met m = encode_known_met m
encode server_met m = encode_server_met m
encode part_met m = encode_part_met m
encode lone_query m = encode_query m
encode lone_tags m = encode_tags m
