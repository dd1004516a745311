-- Before the match the body as a whole may be put. The equation of an arm turns that into what its function asks and puts (Bodies).
use Prim.Native.Nat.{ℕ}
use mathlib.Core.Path.{◌≡◌, refl}
use mathlib.Core.List.{List}
use lib.ListN.{length}
use Rattle.format.specs.Writing.{overwritten}
use Rattle.wire.proofs.Replies.{slice-bytes}
use Rattle.bodies.specs.declared.Body.{Body}
use Rattle.bodies.specs.BodyAnswers.{body_in}
use Rattle.check_bodies.specs.Bodies.{bytes_of}
use Rattle.write_items.specs.Puts.{Puts}
use Rattle.write_bodies.specs.PutBodies.{Puttable}
use Rattle.write_bodies.proofs.Bodies.{address-asks, address-dword-asks, addresses-asks, addresses-bytes, dword-asks, entry-asks, entry-bytes, extended-status-asks, extended-status-bytes, file-status-asks, file-status-bytes, finished, hash-addresses-asks, hash-addresses-bytes, hash-asks, hash-text-asks, hashset-asks, hashset-bytes, hello-asks, hello-bytes, query-asks, query-bytes, record-address-asks, record-address-bytes, record-asks, record-bytes, records-asks, records-bytes, records-flag-asks, records-flag-bytes, request-parts-asks, request-parts-bytes, sending-part-asks, sending-part-bytes, status-asks, status-request-asks, text-asks, two-dwords-asks, two-texts-asks}
use Rattle.write_bodies.proofs.put_body.Goals as goal

-- an arm: what its function put are the bytes of the body
arm : {s old : List ℕ} {whole b : Body} {end : ℕ} {raw new : List ℕ} {size r : ℕ} → whole ≡ b → Puttable s whole end old → (Puttable s b end old → raw ≡ bytes_of (body_in s b))
    → Puts raw size old new r → record { written : r ≡ length (bytes_of (body_in s whole)); output : new ≡ overwritten (bytes_of (body_in s whole)) old }
arm told ready bytes put = rw told (finished (bytes (rw told at ready)) put)

pub put_query-requires : goal.put_query-requires
put_query-requires c = query-asks c.args.src.now (slice-bytes _ c.type_inv.src) (rw c.in-Query.is at c.requires)

pub put_run-requires : goal.put_run-requires
put_run-requires c = hash-asks c.args.src.now (slice-bytes _ c.type_inv.src) (rw c.in-Hash.is at c.requires)

pub put_number-requires : goal.put_number-requires
put_number-requires c = dword-asks (rw c.in-Dword.is at c.requires)

pub put_two_dwords-requires : goal.put_two_dwords-requires
put_two_dwords-requires c = two-dwords-asks (rw c.in-TwoDwords.is at c.requires)

pub put_text-requires : goal.put_text-requires
put_text-requires c = text-asks c.args.src.now (slice-bytes _ c.type_inv.src) (rw c.in-Text.is at c.requires)

pub put_two_texts-requires : goal.put_two_texts-requires
put_two_texts-requires c = two-texts-asks c.args.src.now (slice-bytes _ c.type_inv.src) (rw c.in-TwoTexts.is at c.requires)

pub put_address-requires : goal.put_address-requires
put_address-requires c = address-asks (rw c.in-Address.is at c.requires)

pub put_byte_list-requires : goal.put_byte_list-requires
put_byte_list-requires c = addresses-asks c.args.src.now (slice-bytes _ c.type_inv.src) (rw c.in-Addresses.is at c.requires)

pub put_hash_addresses-requires : goal.put_hash_addresses-requires
put_hash_addresses-requires c = hash-addresses-asks c.args.src.now (slice-bytes _ c.type_inv.src) (rw c.in-HashAddresses.is at c.requires)

pub put_address_dword-requires : goal.put_address_dword-requires
put_address_dword-requires c = address-dword-asks (rw c.in-AddressDword.is at c.requires)

pub put_entry-requires : goal.put_entry-requires
put_entry-requires c = entry-asks c.args.src.now (slice-bytes _ c.type_inv.src) (rw c.in-HashAddressTags.is at c.requires)

pub put_record-requires : goal.put_record-requires
put_record-requires c = record-asks c.args.src.now (slice-bytes _ c.type_inv.src) (rw c.in-Record.is at c.requires)

pub put_dword_list-requires : goal.put_dword_list-requires
put_dword_list-requires c = records-asks c.args.src.now (slice-bytes _ c.type_inv.src) (rw c.in-Records.is at c.requires)

pub put_records_flag-requires : goal.put_records_flag-requires
put_records_flag-requires c = records-flag-asks c.args.src.now (slice-bytes _ c.type_inv.src) (rw c.in-RecordsFlag.is at c.requires)

pub put_record_address-requires : goal.put_record_address-requires
put_record_address-requires c = record-address-asks c.args.src.now (slice-bytes _ c.type_inv.src) (rw c.in-RecordAddress.is at c.requires)

pub put_hello-requires : goal.put_hello-requires
put_hello-requires c = hello-asks c.args.src.now (slice-bytes _ c.type_inv.src) (rw c.in-Hello.is at c.requires)

pub put_hash_text-requires : goal.put_hash_text-requires
put_hash_text-requires c = hash-text-asks c.args.src.now (slice-bytes _ c.type_inv.src) (rw c.in-HashText.is at c.requires)

pub put_hashset-requires : goal.put_hashset-requires
put_hashset-requires c = hashset-asks c.args.src.now (slice-bytes _ c.type_inv.src) (rw c.in-Hashset.is at c.requires)

pub put_sending_part-requires : goal.put_sending_part-requires
put_sending_part-requires c = sending-part-asks c.args.src.now (slice-bytes _ c.type_inv.src) (rw c.in-SendingPart.is at c.requires)

pub put_request_parts-requires : goal.put_request_parts-requires
put_request_parts-requires c = request-parts-asks c.args.src.now (slice-bytes _ c.type_inv.src) (rw c.in-RequestParts.is at c.requires)

pub put_file_status-requires : goal.put_file_status-requires
put_file_status-requires c = file-status-asks c.args.src.now (slice-bytes _ c.type_inv.src) (rw c.in-FileStatus.is at c.requires)

pub put_number-requires-in-StatusRequest : goal.put_number-requires-in-StatusRequest
put_number-requires-in-StatusRequest c = status-request-asks (rw c.in-StatusRequest.is at c.requires)

pub put_triple-requires : goal.put_triple-requires
put_triple-requires c = status-asks (rw c.in-Status.is at c.requires)

pub put_extended_status-requires : goal.put_extended_status-requires
put_extended_status-requires c = extended-status-asks (rw c.in-ExtendedStatus.is at c.requires)

pub returns-in-Query : goal.returns-in-Query
returns-in-Query c = arm c.in-Query.is c.requires (query-bytes c.args.src.now (slice-bytes _ c.type_inv.src)) c.put_query.ensures

pub returns-in-Hash : goal.returns-in-Hash
returns-in-Hash c = rw c.in-Hash.is (finished refl c.put_run.ensures)

pub returns-in-Dword : goal.returns-in-Dword
returns-in-Dword c = rw c.in-Dword.is (finished refl c.put_number.ensures)

pub returns-in-TwoDwords : goal.returns-in-TwoDwords
returns-in-TwoDwords c = rw c.in-TwoDwords.is (finished refl c.put_two_dwords.ensures)

pub returns-in-Text : goal.returns-in-Text
returns-in-Text c = rw c.in-Text.is (finished refl c.put_text.ensures)

pub returns-in-TwoTexts : goal.returns-in-TwoTexts
returns-in-TwoTexts c = rw c.in-TwoTexts.is (finished refl c.put_two_texts.ensures)

pub returns-in-Address : goal.returns-in-Address
returns-in-Address c = rw c.in-Address.is (finished refl c.put_address.ensures)

pub returns-in-Addresses : goal.returns-in-Addresses
returns-in-Addresses c = arm c.in-Addresses.is c.requires (addresses-bytes c.args.src.now (slice-bytes _ c.type_inv.src)) c.put_byte_list.ensures

pub returns-in-HashAddresses : goal.returns-in-HashAddresses
returns-in-HashAddresses c = arm c.in-HashAddresses.is c.requires (hash-addresses-bytes c.args.src.now (slice-bytes _ c.type_inv.src)) c.put_hash_addresses.ensures

pub returns-in-AddressDword : goal.returns-in-AddressDword
returns-in-AddressDword c = rw c.in-AddressDword.is (finished refl c.put_address_dword.ensures)

pub returns-in-HashAddressTags : goal.returns-in-HashAddressTags
returns-in-HashAddressTags c = arm c.in-HashAddressTags.is c.requires (entry-bytes c.args.src.now (slice-bytes _ c.type_inv.src)) c.put_entry.ensures

pub returns-in-Record : goal.returns-in-Record
returns-in-Record c = arm c.in-Record.is c.requires (record-bytes c.args.src.now (slice-bytes _ c.type_inv.src)) c.put_record.ensures

pub returns-in-Records : goal.returns-in-Records
returns-in-Records c = arm c.in-Records.is c.requires (records-bytes c.args.src.now (slice-bytes _ c.type_inv.src)) c.put_dword_list.ensures

pub returns-in-RecordsFlag : goal.returns-in-RecordsFlag
returns-in-RecordsFlag c = arm c.in-RecordsFlag.is c.requires (records-flag-bytes c.args.src.now (slice-bytes _ c.type_inv.src)) c.put_records_flag.ensures

pub returns-in-RecordAddress : goal.returns-in-RecordAddress
returns-in-RecordAddress c = arm c.in-RecordAddress.is c.requires (record-address-bytes c.args.src.now (slice-bytes _ c.type_inv.src)) c.put_record_address.ensures

pub returns-in-Hello : goal.returns-in-Hello
returns-in-Hello c = arm c.in-Hello.is c.requires (hello-bytes c.args.src.now (slice-bytes _ c.type_inv.src)) c.put_hello.ensures

pub returns-in-HashText : goal.returns-in-HashText
returns-in-HashText c = rw c.in-HashText.is (finished refl c.put_hash_text.ensures)

pub returns-in-Hashset : goal.returns-in-Hashset
returns-in-Hashset c = arm c.in-Hashset.is c.requires (hashset-bytes c.args.src.now (slice-bytes _ c.type_inv.src)) c.put_hashset.ensures

pub returns-in-SendingPart : goal.returns-in-SendingPart
returns-in-SendingPart c = rw c.in-SendingPart.is (finished (sending-part-bytes c.args.src.now c.in-SendingPart.part) c.put_sending_part.ensures)

pub returns-in-RequestParts : goal.returns-in-RequestParts
returns-in-RequestParts c = rw c.in-RequestParts.is (finished (request-parts-bytes c.args.src.now c.in-RequestParts.parts) c.put_request_parts.ensures)

pub returns-in-FileStatus : goal.returns-in-FileStatus
returns-in-FileStatus c = arm c.in-FileStatus.is c.requires (file-status-bytes c.args.src.now (slice-bytes _ c.type_inv.src)) c.put_file_status.ensures

pub returns-in-StatusRequest : goal.returns-in-StatusRequest
returns-in-StatusRequest c = rw c.in-StatusRequest.is (finished refl c.put_number-in-StatusRequest.ensures)

pub returns-in-Status : goal.returns-in-Status
returns-in-Status c = rw c.in-Status.is (finished refl c.put_triple.ensures)

pub returns-in-ExtendedStatus : goal.returns-in-ExtendedStatus
returns-in-ExtendedStatus c = rw c.in-ExtendedStatus.is (finished (extended-status-bytes c.args.src.now c.in-ExtendedStatus.status) c.put_extended_status.ensures)
