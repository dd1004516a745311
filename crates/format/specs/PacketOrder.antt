-- Packets in the order in which they are decoded and checked.
use Rattle.std.specs.Prelude.{Bool, List, ◌⊎◌, ℕ, ◌-◌, ◌/◌, leb, eqb}
use Rattle.std.proofs.Math.Option.{Option, none, some}
use Rattle.std.proofs.Common.{inl, inr}
use Rattle.format.specs.Tables.{pick, lookup, one_of, keys, rows}
use Rattle.format.specs.Bits.{spec_packed_bytes, bits_in, unused_clear}
use Rattle.format.specs.Messages.{SendingPart, Triple, RequestParts, FileStatus, Form, plain, extended, StatusRequest, ExtendedStatus, Shape, Values, Packet, Opcodes, Link}
use Rattle.format.specs.Messages.{nothing_body, query_body, hash_body, dword_body, two_dwords_body, text_body, two_texts_body, address_body, addresses_body, hash_addresses_body, address_dword_body, hash_address_tags_body, record_body, records_body, records_flag_body, record_address_body, hello_body, hash_text_body, hashset_body, sending_part_body, request_parts_body, file_status_body, status_request_body, status_body}
use Rattle.format.specs.Decoding.{Rule, frame_length, kind, choice, status_bit, order, data_length, Decoder, ◌>>=◌, ◌>>◌, pure, decode_run, decode_tail, remaining, Check, passes, violates, checked, checked_before, found}
use Rattle.format.specs.Order.{decode_byte, decode_word, decode_dword, decode_hash, decode_string, decode_fixed, decode_address, decode_counted, decode_tags, decode_record, decode_query}

abbrev pub both : {A B : Type 0} → Decoder A → Decoder B → Decoder (A × B)
both r q = do
  a ← r
  b ← q
  pure (a, b)

-- 46: start and end are checked together, by themselves and then by the number of bytes after them.
abbrev pub check_range : ℕ → ℕ × ℕ → Check (ℕ × ℕ)
check_range after p =
    pick (leb p.0 p.1) (pick (eqb after (p.1 - p.0)) (passes p) (violates data_length)) (violates order)

unfoldable pub decode_range : Decoder (ℕ × ℕ)
decode_range = checked_before 8 check_range (both decode_dword decode_dword)

unfoldable pub decode_sending_part : Decoder SendingPart
decode_sending_part = do
  hash ← decode_hash
  range ← decode_range
  bytes ← decode_tail
  pure (record { hash = hash; start = range.0; end = range.1; bytes = bytes })

-- 47: the pairs are checked after the sixth number.
unfoldable pub decode_triple : Decoder Triple
decode_triple = both decode_dword (both decode_dword decode_dword)

abbrev pub check_ranges : Triple × Triple → Check (Triple × Triple)
check_ranges p =
    pick (leb p.0.0 p.1.0)
    (pick (leb p.0.1.0 p.1.1.0) (pick (leb p.0.1.1 p.1.1.1) (passes p) (violates order)) (violates order))
    (violates order)

unfoldable pub decode_ranges : Decoder (Triple × Triple)
decode_ranges = checked 24 check_ranges (both decode_triple decode_triple)

unfoldable pub decode_request_parts : Decoder RequestParts
decode_request_parts = do
  hash ← decode_hash
  ranges ← decode_ranges
  pure (record { hash = hash; starts = ranges.0; ends = ranges.1 })

-- 50: all status bytes must be there before a bit is checked.
abbrev pub check_bits : ℕ → List ℕ → Check (List Bool)
check_bits n l = pick (unused_clear n l) (passes (bits_in n l)) (violates status_bit)

unfoldable pub decode_bits : ℕ → Decoder (List Bool)
decode_bits n = checked (spec_packed_bytes n) (check_bits n) (decode_run (spec_packed_bytes n))

unfoldable pub decode_file_status : Decoder FileStatus
decode_file_status = do
  hash ← decode_hash
  n ← decode_word
  held ← decode_bits n
  pure (record { hash = hash; held = held })

-- 96: AA 5A in the last two bytes of the DWORD.
abbrev pub form_of : ℕ → Form
form_of n = pick (eqb (n / 65536) 0x5AAA) extended plain

unfoldable pub decode_status_request : Decoder StatusRequest
decode_status_request = do
  n ← decode_dword
  pure (record { form = form_of n; number = n })

-- 97: "a body of 12 bytes is always plain, three DWORDs; any other is read as BYTE, BYTE, AA, 5A, three DWORDs" (01).
unfoldable pub decode_extended_status : Decoder ExtendedStatus
decode_extended_status = do
  first ← decode_byte
  second ← decode_byte
  decode_fixed 0xAA
  decode_fixed 0x5A
  numbers ← decode_triple
  pure (record { first = first; second = second; numbers = numbers })

abbrev pub by_size : {A B : Type 0} → ℕ → Decoder A → Decoder B → Decoder (A ⊎ B)
by_size k r q = do
  n ← remaining
  pick (eqb n k) (r >>= (λ a. pure (inl a))) (q >>= (λ b. pure (inr b)))

-- A byte 00 or 01.
abbrev pub check_flag : ℕ → Check ℕ
check_flag b = pick (leb b 1) (passes b) (violates choice)

unfoldable pub decode_flag : Decoder ℕ
decode_flag = checked 1 check_flag decode_byte

abbrev pub decode_values : (s : Shape) → Decoder (Values s)
decode_values nothing_body = pure tt
decode_values query_body = decode_query
decode_values hash_body = decode_hash
decode_values dword_body = decode_dword
decode_values two_dwords_body = both decode_dword decode_dword
decode_values text_body = decode_string
decode_values two_texts_body = both decode_string decode_string
decode_values address_body = decode_address
decode_values addresses_body = decode_counted decode_byte decode_address
decode_values hash_addresses_body = both decode_hash (decode_counted decode_byte decode_address)
decode_values address_dword_body = both decode_address decode_dword
decode_values hash_address_tags_body = both decode_hash (both decode_address decode_tags)
decode_values record_body = decode_record
decode_values records_body = decode_counted decode_dword decode_record
decode_values records_flag_body = both (decode_counted decode_dword decode_record) decode_flag
decode_values record_address_body = both decode_record decode_address
decode_values hello_body = do
  decode_fixed 0x10
  both decode_record decode_address
decode_values hash_text_body = both decode_hash decode_string
decode_values hashset_body = both decode_hash (decode_counted decode_word decode_hash)
decode_values sending_part_body = decode_sending_part
decode_values request_parts_body = decode_request_parts
decode_values file_status_body = decode_file_status
decode_values status_request_body = decode_status_request
decode_values status_body = by_size 12 decode_triple decode_extended_status

unfoldable pub decode_body : Shape → Decoder ((s : Shape) × Values s)
decode_body s = do
  v ← decode_values s
  pure (s, v)

-- The frame: opening byte (2), on TCP the length DWORD as one item (3), opcode (4).
abbrev pub check_opening : List ℕ → ℕ → Check ℕ
check_opening openings b = pick (one_of openings b) (passes b) (violates Rule.opening)

unfoldable pub decode_opening : List ℕ → Decoder ℕ
decode_opening openings = checked 1 (check_opening openings) decode_byte

abbrev pub check_length : ℕ → ℕ → Check ℕ
check_length after n =
    pick (eqb n 0) (violates frame_length) (pick (eqb n after) (passes n) (violates frame_length))

unfoldable pub decode_length : Decoder ℕ
decode_length = checked_before 4 check_length decode_dword

abbrev pub with_shape : ℕ → Option Shape → Option (ℕ × Shape)
with_shape b none = none
with_shape b (some s) = some (b, s)

unfoldable pub decode_opcode : Opcodes → Decoder (ℕ × Shape)
decode_opcode table = checked 1 (λ b. found kind (with_shape b (lookup table b))) decode_byte

unfoldable pub decode_tcp : Link → Decoder Packet
decode_tcp link = do
  opening ← decode_opening (keys link)
  decode_length
  head ← decode_opcode (rows link opening)
  body ← decode_body head.1
  pure (record { opening = opening; opcode = head.0; body = body })

unfoldable pub decode_udp : Link → Decoder Packet
decode_udp link = do
  opening ← decode_opening (keys link)
  head ← decode_opcode (rows link opening)
  body ← decode_body head.1
  pure (record { opening = opening; opcode = head.0; body = body })
