-- The rules and limits of document 01, each stated of the message's values ("keeps the rules and limits" there is `Valid` here).
-- The byte ceiling alone is a rule on the bytes, as 01 has it.
use Rattle.std.specs.Prelude.{◌≡◌, ◌↔◌, List, [], ◌∷◌, ◌++◌, map, ℕ, suc, max, ◌+◌, ◌-◌, ◌/◌, ◌≤◌, ◌<◌, length}
use Rattle.std.proofs.Math.Option.{some}
use Rattle.format.specs.Tables.{OneOf, lookup, rows}
use Rattle.format.specs.Gaps.{gap_limit, Gap, Ordered}
use Rattle.format.specs.Messages.{Address, TagType, hash_type, string_type, dword_type, float_type, TagValue, Tag, Record}
use Rattle.format.specs.Messages.{Query, join, keyword, field, limit}
use Rattle.format.specs.Messages.{SendingPart, Triple, RequestParts, FileStatus, extended, StatusRequest, ExtendedStatus, Shape, Values, Packet, Link, server, client, udp}
use Rattle.format.specs.Messages.{nothing_body, query_body, hash_body, dword_body, two_dwords_body, text_body, two_texts_body, address_body, addresses_body, hash_addresses_body, address_dword_body, hash_address_tags_body, record_body, records_body, records_flag_body, record_address_body, hello_body, hash_text_body, hashset_body, sending_part_body, request_parts_body, file_status_body, status_request_body, status_body}
use Rattle.format.specs.Messages.{FileEntry, KnownMet, ServerEntry, ServerMet, HashBlocks, no_blocks, part_block, block_block, both_blocks, PartE1, PartMet, e0, e1}
use Rattle.format.specs.Messages.{Kind, server_link, client_link, udp_link, known_met, server_met, part_met, lone_query, lone_tags, Message}
use Rattle.format.specs.Layout.{either, encode}

-- Ceilings; that of gaps is gap_limit (Gaps).

abbrev pub packet_ceiling : ℕ
packet_ceiling = 65536

abbrev pub met_ceiling : ℕ
met_ceiling = 1048576

abbrev pub depth_limit : ℕ
depth_limit = 24

abbrev pub name_limit : ℕ
name_limit = 255

-- Items

-- A rule at each element.
abbrev pub All : {A : Type 0} → (A → Type 0) → List A → Type 0
All P [] = Unit {0}
All P (a ∷ l) = P a × All P l

abbrev pub Byte : ℕ → Type 0
Byte n = n < 256

abbrev pub Word : ℕ → Type 0
Word n = n < 65536

abbrev pub Dword : ℕ → Type 0
Dword n = n < 4294967296

abbrev pub Bytes : List ℕ → Type 0
Bytes l = All Byte l

-- A list whose count fits its field.
abbrev pub Counted : {A : Type 0} → (ℕ → Type 0) → (A → Type 0) → List A → Type 0
Counted Count Valid l = Count (length l) × All Valid l

abbrev pub ValidHash : List ℕ → Type 0
ValidHash h = (length h ≡ 16) × Bytes h

abbrev pub ValidString : List ℕ → Type 0
ValidString t = Word (length t) × Bytes t

-- A name has 1 to 255 bytes. Every byte is valid in it, and a one-byte name needs no listing: "a one-byte name is the
-- published special tag and nothing else" (01) says what it means, not which there are.
pub record ValidName (t : List ℕ) : Type 0 where
  pub some : 1 ≤ length t
  pub few : length t ≤ name_limit
  pub bytes : Bytes t

pub record ValidAddress (a : Address) : Type 0 where
  pub ip : Dword a.ip
  pub port : Word a.port

abbrev pub ValidValue : (t : TagType) → TagValue t → Type 0
ValidValue hash_type v = ValidHash v
ValidValue string_type v = ValidString v
ValidValue dword_type v = Dword v
ValidValue float_type v = Dword v

pub record ValidTag (t : Tag) : Type 0 where
  pub name : ValidName t.name
  pub value : ValidValue t.value.0 t.value.1

abbrev pub ValidTags : List Tag → Type 0
ValidTags l = Counted Dword ValidTag l

pub record ValidRecord (r : Record) : Type 0 where
  pub hash : ValidHash r.hash
  pub client : Dword r.client
  pub port : Word r.port
  pub tags : ValidTags r.tags

-- A leaf has depth 1, an operator one more than its deeper side.
unfoldable pub depth : Query → ℕ
depth (join o q r) = suc (max (depth q) (depth r))
depth (keyword t) = 1
depth (field t n) = 1
depth (limit v b n) = 1

unfoldable pub ValidLeaves : Query → Type 0
ValidLeaves (join o q r) = ValidLeaves q × ValidLeaves r
ValidLeaves (keyword t) = ValidString t
ValidLeaves (field t n) = ValidString t × ValidName n
ValidLeaves (limit v b n) = Dword v × ValidName n

abbrev pub ValidQuery : Query → Type 0
ValidQuery q = ValidLeaves q × (depth q ≤ depth_limit)

-- Packets

-- 46: start ≤ end, and end − start bytes of data.
pub record ValidSendingPart (m : SendingPart) : Type 0 where
  pub hash : ValidHash m.hash
  pub start : Dword m.start
  pub end : Dword m.end
  pub order : m.start ≤ m.end
  pub full : length m.bytes ≡ m.end - m.start
  pub bytes : Bytes m.bytes

abbrev pub ValidTriple : Triple → Type 0
ValidTriple t = Dword t.0 × (Dword t.1.0 × Dword t.1.1)

-- 47: start ≤ end in each pair.
pub record ValidRequestParts (m : RequestParts) : Type 0 where
  pub hash : ValidHash m.hash
  pub starts : ValidTriple m.starts
  pub ends : ValidTriple m.ends
  pub first : m.starts.0 ≤ m.ends.0
  pub second : m.starts.1.0 ≤ m.ends.1.0
  pub third : m.starts.1.1 ≤ m.ends.1.1

pub record ValidFileStatus (m : FileStatus) : Type 0 where
  pub hash : ValidHash m.hash
  pub parts : Word (length m.held)

-- 96: "if its last two bytes are AA 5A it is the extended request, else the plain one" (01). They are the high half of the DWORD.
pub record ValidStatusRequest (m : StatusRequest) : Type 0 where
  pub number : Dword m.number
  pub form : (m.form ≡ extended) ↔ (m.number / 65536 ≡ 0x5AAA)

-- 97: "a body of 12 bytes is always plain" (01), and no other body is: the plain form has 12 bytes, the extended one 16,
-- so the two have no bytes in common and need no rule to tell them apart.
pub record ValidExtendedStatus (m : ExtendedStatus) : Type 0 where
  pub first : Byte m.first
  pub second : Byte m.second
  pub numbers : ValidTriple m.numbers

abbrev pub ValidValues : (s : Shape) → Values s → Type 0
ValidValues nothing_body v = Unit {0}
ValidValues query_body v = ValidQuery v
ValidValues hash_body v = ValidHash v
ValidValues dword_body v = Dword v
ValidValues two_dwords_body v = Dword v.0 × Dword v.1
ValidValues text_body v = ValidString v
ValidValues two_texts_body v = ValidString v.0 × ValidString v.1
ValidValues address_body v = ValidAddress v
ValidValues addresses_body v = Counted Byte ValidAddress v
ValidValues hash_addresses_body v = ValidHash v.0 × Counted Byte ValidAddress v.1
ValidValues address_dword_body v = ValidAddress v.0 × Dword v.1
ValidValues hash_address_tags_body v = ValidHash v.0 × (ValidAddress v.1.0 × ValidTags v.1.1)
ValidValues record_body v = ValidRecord v
ValidValues records_body v = Counted Dword ValidRecord v
ValidValues records_flag_body v = Counted Dword ValidRecord v.0 × (v.1 ≤ 1)
ValidValues record_address_body v = ValidRecord v.0 × ValidAddress v.1
ValidValues hello_body v = ValidRecord v.0 × ValidAddress v.1
ValidValues hash_text_body v = ValidHash v.0 × ValidString v.1
ValidValues hashset_body v = ValidHash v.0 × Counted Word ValidHash v.1
ValidValues sending_part_body v = ValidSendingPart v
ValidValues request_parts_body v = ValidRequestParts v
ValidValues file_status_body v = ValidFileStatus v
ValidValues status_request_body v = ValidStatusRequest v
ValidValues status_body v = either ValidTriple ValidExtendedStatus v

-- A packet of a link: the link lists its opcode under its opening byte, with the shape of its body.
pub record ValidPacket (link : Link) (m : Packet) : Type 0 where
  pub opening : Byte m.opening
  pub opcode : Byte m.opcode
  pub listed : lookup (rows link m.opening) m.opcode ≡ some m.body.0
  pub values : ValidValues m.body.0 m.body.1

-- Met files

pub record ValidFileEntry (e : FileEntry) : Type 0 where
  pub date : Dword e.date
  pub hash : ValidHash e.hash
  pub parts : Counted Word ValidHash e.parts
  pub tags : ValidTags e.tags

abbrev pub met_openings : List ℕ
met_openings = 0x0E ∷ []

pub record ValidKnownMet (m : KnownMet) : Type 0 where
  pub opening : OneOf met_openings m.opening
  pub entries : Counted Dword ValidFileEntry m.entries

pub record ValidServerEntry (e : ServerEntry) : Type 0 where
  pub ip : Dword e.ip
  pub port : Word e.port
  pub tags : ValidTags e.tags

pub record ValidServerMet (m : ServerMet) : Type 0 where
  pub opening : OneOf met_openings m.opening
  pub entries : Counted Dword ValidServerEntry m.entries
  pub tail : Bytes m.tail

-- One part hash for each started 9,728,000 bytes, one block hash for each started 486,400.
abbrev pub spec_part_count : ℕ → ℕ
spec_part_count size = (size + 9727999) / 9728000

abbrev pub spec_block_count : ℕ → ℕ
spec_block_count size = (size + 486399) / 486400

abbrev pub ValidBlockHash : List ℕ → Type 0
ValidBlockHash h = (length h ≡ 8) × Bytes h

-- "A lone block is always the first" (01): block hashes alone are never allowed, also where they are as long as the part hashes.
unfoldable pub ValidHashBlocks : ℕ → HashBlocks → Type 0
ValidHashBlocks size no_blocks = Unit {0}
ValidHashBlocks size (part_block l) = (length l ≡ spec_part_count size) × All ValidHash l
ValidHashBlocks size (block_block k) = ⊥
ValidHashBlocks size (both_blocks l k) =
    ((length l ≡ spec_part_count size) × All ValidHash l) × ((length k ≡ spec_block_count size) × All ValidBlockHash k)

-- The tags that a part.met asks about: all are DWORDs.
abbrev pub dword_tag : List ℕ → ℕ → Tag
dword_tag name n = record { name = name; value = (dword_type, n) }

abbrev pub size_tag : ℕ → Tag
size_tag n = dword_tag (0x02 ∷ []) n

-- Exactly one size tag.
abbrev pub NoSizeTag : Tag → Type 0
NoSizeTag t = (n : ℕ) → t ≡ size_tag n → ⊥

pub record SizeIs (size : ℕ) (tags : List Tag) : Type 0 where
  pub before : List Tag
  pub after : List Tag
  pub here : tags ≡ before ++ (size_tag size ∷ after)
  pub none_before : All NoSizeTag before
  pub none_after : All NoSizeTag after

-- A pair of gap tags: the digits of its number, its start and its end.
pub record GapPair : Type 0 where
  pub digits : List ℕ
  pub start : ℕ
  pub end : ℕ

abbrev pub start_tag : GapPair → Tag
start_tag p = dword_tag (0x09 ∷ p.digits) p.start

abbrev pub end_tag : GapPair → Tag
end_tag p = dword_tag (0x0A ∷ p.digits) p.end

abbrev pub gap_of : GapPair → Gap
gap_of p = record { start = p.start; end = p.end }

-- A tag whose name starts with neither 09 nor 0A.
abbrev pub NoGapTag : Tag → Type 0
NoGapTag t = (rest : List ℕ) → (t.name ≡ 0x09 ∷ rest → ⊥) × (t.name ≡ 0x0A ∷ rest → ⊥)

-- The gap tags of the list, from left to right, are these pairs: a start tag and, as the very next tag, its end tag.
pub data Paired : List Tag → List GapPair → Type 0 where
  done : Paired [] []
  other : {t : Tag} {l : List Tag} {ps : List GapPair} → NoGapTag t → Paired l ps → Paired (t ∷ l) ps
  pair : {l : List Tag} {ps : List GapPair} (p : GapPair) → Paired l ps → Paired (start_tag p ∷ end_tag p ∷ l) (p ∷ ps)

-- 1 to 10 decimal digits.
pub record Digits (d : List ℕ) : Type 0 where
  pub some : 1 ≤ length d
  pub few : length d ≤ 10
  pub decimal : All (λ b. (0x30 ≤ b) × (b ≤ 0x39)) d

-- No two pairs have the same digits.
abbrev pub Apart : List ℕ → List GapPair → Type 0
Apart d ps = All (λ p. d ≡ p.digits → ⊥) ps

unfoldable pub Distinct : List GapPair → Type 0
Distinct [] = Unit {0}
Distinct (p ∷ ps) = Apart p.digits ps × Distinct ps

-- The order of the gaps (Gaps): start < end ≤ size, and the previous end < start.
pub record ValidGapTags (size : ℕ) (tags : List Tag) : Type 0 where
  pub pairs : List GapPair
  pub paired : Paired tags pairs
  pub few : length pairs ≤ gap_limit
  pub digits : All (λ p. Digits p.digits) pairs
  pub distinct : Distinct pairs
  pub order : Ordered size 0 (map gap_of pairs)

-- The tags of a part.met of this size, besides the rules of every tag list.
pub record ValidPartTags (size : ℕ) (tags : List Tag) : Type 0 where
  pub one : SizeIs size tags
  pub gaps : ValidGapTags size tags

pub record ValidPartE0 (e : FileEntry) : Type 0 where
  pub entry : ValidFileEntry e
  pub size : ℕ
  pub sized : ValidPartTags size e.tags

pub record ValidPartE1 (m : PartE1) : Type 0 where
  pub date : Dword m.date
  pub hash : ValidHash m.hash
  pub tags : ValidTags m.tags
  pub size : ℕ
  pub sized : ValidPartTags size m.tags
  pub blocks : ValidHashBlocks size m.blocks

unfoldable pub ValidPartMet : PartMet → Type 0
ValidPartMet (e0 e) = ValidPartE0 e
ValidPartMet (e1 m) = ValidPartE1 m

-- Every kind

abbrev pub ceiling : Kind → ℕ
ceiling server_link = packet_ceiling
ceiling client_link = packet_ceiling
ceiling udp_link = packet_ceiling
ceiling known_met = met_ceiling
ceiling server_met = met_ceiling
ceiling part_met = met_ceiling
ceiling lone_query = packet_ceiling
ceiling lone_tags = packet_ceiling

abbrev pub ValidContent : (k : Kind) → Message k → Type 0
ValidContent server_link m = ValidPacket server m
ValidContent client_link m = ValidPacket client m
ValidContent udp_link m = ValidPacket udp m
ValidContent known_met m = ValidKnownMet m
ValidContent server_met m = ValidServerMet m
ValidContent part_met m = ValidPartMet m
ValidContent lone_query m = ValidQuery m
ValidContent lone_tags m = ValidTags m

-- A valid message of a kind: one that "keeps the rules and limits" (01).
pub record Valid (k : Kind) (m : Message k) : Type 0 where
  pub content : ValidContent k m
  pub few : length (encode k m) ≤ ceiling k
