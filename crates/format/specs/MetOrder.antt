-- The met files in the order in which they are decoded and checked, and the answer for each kind.
use Rattle.std.specs.Prelude.{List, [], ◌∷◌, ℕ}
use Rattle.format.specs.Tables.{lookup, table_of}
use Rattle.format.specs.Messages.{FileEntry, KnownMet, ServerEntry, ServerMet, HashBlocks, no_blocks, part_block, both_blocks, PartE1, PartMet, e0, e1, Tag, server, client, udp}
use Rattle.format.specs.Messages.{Kind, server_link, client_link, udp_link, known_met, server_met, part_met, lone_query, lone_tags, Message}
use Rattle.format.specs.Rules.{met_openings, spec_part_count, spec_block_count, ceiling}
use Rattle.format.specs.Decoding.{Rule, Decoder, ◌>>=◌, ◌>>◌, pure, decode_run, decode_tail, decode_many, checked, checked_whole, found, Answer, decode_whole}
use Rattle.format.specs.Order.{decode_byte, decode_word, decode_dword, decode_hash, decode_code, decode_fixed, decode_counted, decode_tags, decode_query}
use Rattle.format.specs.PacketOrder.{decode_opening, decode_tcp, decode_udp}
use Rattle.format.specs.PartTagOrder.{spec_check_part_tags}

unfoldable pub decode_file_entry : Decoder FileEntry
decode_file_entry = do
  date ← decode_dword
  hash ← decode_hash
  parts ← decode_counted decode_word decode_hash
  tags ← decode_tags
  pure (record { date = date; hash = hash; parts = parts; tags = tags })

unfoldable pub decode_known_met : Decoder KnownMet
decode_known_met = do
  opening ← decode_opening met_openings
  entries ← decode_counted decode_dword decode_file_entry
  pure (record { opening = opening; entries = entries })

unfoldable pub decode_server_entry : Decoder ServerEntry
decode_server_entry = do
  ip ← decode_dword
  port ← decode_word
  tags ← decode_tags
  pure (record { ip = ip; port = port; tags = tags })

-- All after the last entry is tail, so 7 never occurs.
unfoldable pub decode_server_met : Decoder ServerMet
decode_server_met = do
  opening ← decode_opening met_openings
  entries ← decode_counted decode_dword decode_server_entry
  tail ← decode_tail
  pure (record { opening = opening; entries = entries; tail = tail })

-- The blocks of a part.met E1: a mark 01 and hashes, or the closing 00. The first block is always that of the part hashes.
pub data Mark : Type 0 where
  stop more : Mark

abbrev pub mark_code : Mark → ℕ
mark_code stop = 0
mark_code more = 1

abbrev pub marks : List (ℕ × Mark)
marks = table_of mark_code (stop ∷ more ∷ [])

abbrev pub decode_second_block : ℕ → List (List ℕ) → Mark → Decoder HashBlocks
decode_second_block size l stop = pure (part_block l)
decode_second_block size l more = do
  k ← decode_many (spec_block_count size) (decode_run 8)
  decode_fixed 0
  pure (both_blocks l k)

abbrev pub decode_first_block : ℕ → Mark → Decoder HashBlocks
decode_first_block size stop = pure no_blocks
decode_first_block size more = do
  l ← decode_many (spec_part_count size) decode_hash
  m ← decode_code marks
  decode_second_block size l m

unfoldable pub decode_hash_blocks : ℕ → Decoder HashBlocks
decode_hash_blocks size = do
  m ← decode_code marks
  decode_first_block size m

-- A tag list with its size: the faulty item is the whole list.
unfoldable pub decode_part_tags : Decoder (ℕ × List Tag)
decode_part_tags = checked_whole spec_check_part_tags decode_tags

unfoldable pub decode_part_e0 : Decoder FileEntry
decode_part_e0 = do
  date ← decode_dword
  hash ← decode_hash
  parts ← decode_counted decode_word decode_hash
  tags ← decode_part_tags
  pure (record { date = date; hash = hash; parts = parts; tags = tags.1 })

unfoldable pub decode_part_e1 : Decoder PartE1
decode_part_e1 = do
  decode_fixed 0x02
  date ← decode_dword
  hash ← decode_hash
  tags ← decode_part_tags
  blocks ← decode_hash_blocks tags.0
  pure (record { date = date; hash = hash; tags = tags.1; blocks = blocks })

pub data Edition : Type 0 where
  is_e0 is_e1 : Edition

abbrev pub edition_code : Edition → ℕ
edition_code is_e0 = 0xE0
edition_code is_e1 = 0xE1

abbrev pub editions : List (ℕ × Edition)
editions = table_of edition_code (is_e0 ∷ is_e1 ∷ [])

unfoldable pub decode_edition : Decoder Edition
decode_edition = checked 1 (λ b. found Rule.opening (lookup editions b)) decode_byte

abbrev pub decode_part_body : Edition → Decoder PartMet
decode_part_body is_e0 = do
  e ← decode_part_e0
  pure (e0 e)
decode_part_body is_e1 = do
  m ← decode_part_e1
  pure (e1 m)

unfoldable pub decode_part_met : Decoder PartMet
decode_part_met = do
  e ← decode_edition
  decode_part_body e

-- Every kind

abbrev pub decoder : (k : Kind) → Decoder (Message k)
decoder server_link = decode_tcp server
decoder client_link = decode_tcp client
decoder udp_link = decode_udp udp
decoder known_met = decode_known_met
decoder server_met = decode_server_met
decoder part_met = decode_part_met
decoder lone_query = decode_query
decoder lone_tags = decode_tags

-- The answer for the bytes of a kind: the message, or the fault that decides.
unfoldable pub decode : (k : Kind) → List ℕ → Answer (Message k)
decode k s = decode_whole (ceiling k) (decoder k) s
