-- What messages are: the values that document 01 lists for each packet, query, tag list and met file, and nothing else.
-- Counts, header lengths, fixed bytes and places in the lent bytes are no values (01, "Messages and their bytes").
-- Numbers are natural numbers; hashes, texts, names, data and tails are lists of bytes.
use Rattle.std.specs.Prelude.{Bool, List, [], ◌∷◌, ◌⊎◌, ℕ}

-- Items

pub record Address : Type 0 where
  pub ip : ℕ
  pub port : ℕ

pub data TagType : Type 0 where
  hash_type string_type dword_type float_type : TagType

-- The value of a tag. A FLOAT is kept as its bits.
abbrev pub TagValue : TagType → Type 0
TagValue hash_type = List ℕ
TagValue string_type = List ℕ
TagValue dword_type = ℕ
TagValue float_type = ℕ

-- A one-byte name is the published special tag and nothing else (01): names are reported apart by their bytes alone.
pub record Tag : Type 0 where
  pub name : List ℕ
  pub value : (t : TagType) × TagValue t

-- 01's record: a file or a client, as peers and servers list it.
pub record Record : Type 0 where
  pub hash : List ℕ
  pub client : ℕ
  pub port : ℕ
  pub tags : List Tag

pub data Operator : Type 0 where
  and or and_not : Operator

-- 01's min and max.
pub data Bound : Type 0 where
  at_least at_most : Bound

pub data Query : Type 0 where
  join : Operator → Query → Query → Query
  keyword : (text : List ℕ) → Query
  field : (text name : List ℕ) → Query
  limit : (number : ℕ) → Bound → (name : List ℕ) → Query

-- Packets

-- 46, Sending part: the bytes of a file from `start` up to `end`.
pub record SendingPart : Type 0 where
  pub hash : List ℕ
  pub start : ℕ
  pub end : ℕ
  pub bytes : List ℕ

abbrev pub Triple : Type 0
Triple = ℕ × (ℕ × ℕ)

-- 47, Request parts: three ranges of a file.
pub record RequestParts : Type 0 where
  pub hash : List ℕ
  pub starts : Triple
  pub ends : Triple

-- 50, File status: for each part of a file, whether it is held.
pub record FileStatus : Type 0 where
  pub hash : List ℕ
  pub held : List Bool

-- 96, UDP Server status request. Its two published forms are the same DWORD: the number decides between them (Rules).
pub data Form : Type 0 where
  plain extended : Form

pub record StatusRequest : Type 0 where
  pub form : Form
  pub number : ℕ

-- 97, UDP Server status, in its longer published form.
pub record ExtendedStatus : Type 0 where
  pub first : ℕ
  pub second : ℕ
  pub numbers : Triple

-- What a packet's body holds.
pub data Shape : Type 0 where
  nothing_body query_body hash_body dword_body two_dwords_body text_body two_texts_body : Shape
  address_body addresses_body hash_addresses_body address_dword_body hash_address_tags_body : Shape
  record_body records_body records_flag_body record_address_body hello_body : Shape
  hash_text_body hashset_body sending_part_body request_parts_body file_status_body : Shape
  status_request_body status_body : Shape

abbrev pub Values : Shape → Type 0
Values nothing_body = Unit {0}
Values query_body = Query
Values hash_body = List ℕ
Values dword_body = ℕ
Values two_dwords_body = ℕ × ℕ
Values text_body = List ℕ
Values two_texts_body = List ℕ × List ℕ
Values address_body = Address
Values addresses_body = List Address
Values hash_addresses_body = List ℕ × List Address
Values address_dword_body = Address × ℕ
Values hash_address_tags_body = List ℕ × (Address × List Tag)
Values record_body = Record
Values records_body = List Record
Values records_flag_body = List Record × ℕ
Values record_address_body = Record × Address
Values hello_body = Record × Address
Values hash_text_body = List ℕ × List ℕ
Values hashset_body = List ℕ × List (List ℕ)
Values sending_part_body = SendingPart
Values request_parts_body = RequestParts
Values file_status_body = FileStatus
Values status_request_body = StatusRequest
Values status_body = Triple ⊎ ExtendedStatus

-- 01's opening byte stands before the opcode.
pub record Packet : Type 0 where
  pub opening : ℕ
  pub opcode : ℕ
  pub body : (s : Shape) × Values s

-- A link lists its opening bytes, each with the shape of the body after each opcode.
abbrev pub Opcodes : Type 0
Opcodes = List (ℕ × Shape)

abbrev pub Link : Type 0
Link = List (ℕ × Opcodes)

abbrev pub server_opcodes : Opcodes
server_opcodes =
    (0x01, record_body)  -- Hello server
    ∷ (0x05, nothing_body)  -- Bad protocol
    ∷ (0x14, nothing_body)  -- Get server list
    ∷ (0x15, records_body)  -- Offer files
    ∷ (0x16, query_body)  -- Search file
    ∷ (0x18, nothing_body)  -- Disconnect
    ∷ (0x19, hash_body)  -- Get sources
    ∷ (0x1A, query_body)  -- Search user
    ∷ (0x1C, dword_body)  -- Client cb request
    ∷ (0x21, nothing_body)  -- More results
    ∷ (0x32, addresses_body)  -- Server list
    ∷ (0x33, records_flag_body)  -- Search file results
    ∷ (0x34, two_dwords_body)  -- Server status
    ∷ (0x35, address_body)  -- Server cb request
    ∷ (0x36, dword_body)  -- Callback fail
    ∷ (0x38, text_body)  -- Server message
    ∷ (0x40, dword_body)  -- ID change
    ∷ (0x41, hash_address_tags_body)  -- Server info data
    ∷ (0x42, hash_addresses_body)  -- Found sources
    ∷ (0x43, records_body)  -- Search user results
    ∷ []

abbrev pub client_opcodes : Opcodes
client_opcodes =
    (0x01, hello_body)  -- Hello client
    ∷ (0x46, sending_part_body)  -- Sending part
    ∷ (0x47, request_parts_body)  -- Request parts
    ∷ (0x48, hash_body)  -- No such file
    ∷ (0x49, hash_body)  -- End of download
    ∷ (0x4A, nothing_body)  -- View files
    ∷ (0x4B, records_body)  -- View files answer
    ∷ (0x4C, record_address_body)  -- Hello answer
    ∷ (0x4D, two_dwords_body)  -- New client ID
    ∷ (0x4E, text_body)  -- Message
    ∷ (0x4F, hash_body)  -- File status request
    ∷ (0x50, file_status_body)  -- File status
    ∷ (0x51, hash_body)  -- Hashset request
    ∷ (0x52, hashset_body)  -- Hashset answer
    ∷ (0x54, hash_body)  -- Slot request
    ∷ (0x55, nothing_body)  -- Slot given
    ∷ (0x56, nothing_body)  -- Slot release
    ∷ (0x57, nothing_body)  -- Slot taken
    ∷ (0x58, hash_body)  -- File request
    ∷ (0x59, hash_text_body)  -- File request answer
    ∷ (0x5C, dword_body)  -- Queue rank
    ∷ []

abbrev pub udp_opcodes : Opcodes
udp_opcodes =
    (0x96, status_request_body)  -- UDP Server status request
    ∷ (0x97, status_body)  -- UDP Server status
    ∷ (0x98, query_body)  -- UDP Search file
    ∷ (0x99, record_body)  -- UDP Search file result
    ∷ (0x9A, hash_body)  -- UDP Get sources
    ∷ (0x9B, hash_addresses_body)  -- UDP Found sources
    ∷ (0x9C, address_dword_body)  -- UDP Callback request
    ∷ (0x9E, dword_body)  -- UDP Callback fail
    ∷ (0xA1, addresses_body)  -- UDP Server list
    ∷ (0xA2, nothing_body)  -- UDP Get server info
    ∷ (0xA3, two_texts_body)  -- UDP Server info
    ∷ (0xA4, nothing_body)  -- UDP Get server list
    ∷ []

abbrev pub server : Link
server = (0xE3, server_opcodes) ∷ []

abbrev pub client : Link
client = (0xE3, client_opcodes) ∷ []

abbrev pub udp : Link
udp = (0xE3, udp_opcodes) ∷ []

-- Met files

-- An entry of known.met, and all that stands after the opening byte of a part.met that opens with E0.
pub record FileEntry : Type 0 where
  pub date : ℕ
  pub hash : List ℕ
  pub parts : List (List ℕ)
  pub tags : List Tag

pub record KnownMet : Type 0 where
  pub opening : ℕ
  pub entries : List FileEntry

pub record ServerEntry : Type 0 where
  pub ip : ℕ
  pub port : ℕ
  pub tags : List Tag

pub record ServerMet : Type 0 where
  pub opening : ℕ
  pub entries : List ServerEntry
  pub tail : List ℕ

-- Which of its two blocks a part.met that opens with E1 has: part hashes, block hashes, or both in this order.
-- Not all of these are allowed (Rules): "A lone block is always the first" (01).
pub data HashBlocks : Type 0 where
  no_blocks : HashBlocks
  part_block : (parts : List (List ℕ)) → HashBlocks
  block_block : (blocks : List (List ℕ)) → HashBlocks
  both_blocks : (parts blocks : List (List ℕ)) → HashBlocks

pub record PartE1 : Type 0 where
  pub date : ℕ
  pub hash : List ℕ
  pub tags : List Tag
  pub blocks : HashBlocks

pub data PartMet : Type 0 where
  e0 : FileEntry → PartMet
  e1 : PartE1 → PartMet

-- What a caller may name: 01's six kinds, and the lone query and the lone tag list.
pub data Kind : Type 0 where
  server_link client_link udp_link known_met server_met part_met lone_query lone_tags : Kind

abbrev pub Message : Kind → Type 0
Message server_link = Packet
Message client_link = Packet
Message udp_link = Packet
Message known_met = KnownMet
Message server_met = ServerMet
Message part_met = PartMet
Message lone_query = Query
Message lone_tags = List Tag
