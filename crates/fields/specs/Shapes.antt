-- The numbers by which the fields of a packet name the shape of its body (ED2K_BODY_.. in include/ed2k.h), and those of a part.met the hash
-- lists that it has (ED2K_HASHES_..).
use Rattle.std.specs.Prelude.{ℕ}

abbrev pub nothing_shape : ℕ
nothing_shape = 0

abbrev pub query_shape : ℕ
query_shape = 1

abbrev pub hash_shape : ℕ
hash_shape = 2

abbrev pub dword_shape : ℕ
dword_shape = 3

abbrev pub two_dwords_shape : ℕ
two_dwords_shape = 4

abbrev pub text_shape : ℕ
text_shape = 5

abbrev pub two_texts_shape : ℕ
two_texts_shape = 6

abbrev pub address_shape : ℕ
address_shape = 7

abbrev pub addresses_shape : ℕ
addresses_shape = 8

abbrev pub hash_addresses_shape : ℕ
hash_addresses_shape = 9

abbrev pub address_dword_shape : ℕ
address_dword_shape = 10

abbrev pub hash_address_tags_shape : ℕ
hash_address_tags_shape = 11

abbrev pub record_shape : ℕ
record_shape = 12

abbrev pub records_shape : ℕ
records_shape = 13

abbrev pub records_flag_shape : ℕ
records_flag_shape = 14

abbrev pub record_address_shape : ℕ
record_address_shape = 15

abbrev pub hello_shape : ℕ
hello_shape = 16

abbrev pub hash_text_shape : ℕ
hash_text_shape = 17

abbrev pub hashset_shape : ℕ
hashset_shape = 18

abbrev pub sending_part_shape : ℕ
sending_part_shape = 19

abbrev pub request_parts_shape : ℕ
request_parts_shape = 20

abbrev pub file_status_shape : ℕ
file_status_shape = 21

abbrev pub status_request_shape : ℕ
status_request_shape = 22

abbrev pub status_shape : ℕ
status_shape = 23

abbrev pub extended_status_shape : ℕ
extended_status_shape = 24

abbrev pub no_hashes : ℕ
no_hashes = 0

abbrev pub part_hashes : ℕ
part_hashes = 1

abbrev pub block_hashes : ℕ
block_hashes = 2

abbrev pub both_hashes : ℕ
both_hashes = 3

abbrev pub counted_hashes : ℕ
counted_hashes = 4
