-- Each arm is the extents of its parts, put together by the laws of Extents; `recast` says its size and counts as the body has them.
use mathlib.Core.Path.{refl}
use native.Mathlib.Omega.{arith}
use lib.ListN.{length-append}
use Rattle.format.specs.Layout.{encode_address, encode_extended_status, encode_file_status, encode_record, encode_request_parts, encode_sending_part, encode_tags}
use Rattle.format.proofs.Codec.{length-little_endian}
use Rattle.check_bodies.proofs.Extents.{adds, after-extends, both-adds, both-extends, held_fits, held-size, held_word, plain-extends, recast}
use Rattle.check_bodies.proofs.body_extent.Goals as goal

pub both-requires-in-HashAddresses : goal.both-requires-in-HashAddresses
both-requires-in-HashAddresses c = both-adds c.hash_extent-in-HashAddresses.ensures c.addresses_extent-in-HashAddresses.ensures (omega arith)

pub both-requires-in-HashText : goal.both-requires-in-HashText
both-requires-in-HashText c = both-adds c.hash_extent-in-HashText.ensures c.text_extent-in-HashText.ensures (omega arith)

pub both-requires-in-Hashset : goal.both-requires-in-Hashset
both-requires-in-Hashset c = both-adds c.hash_extent-in-Hashset.ensures c.hashes_extent.ensures (omega arith)

pub both-requires-in-SendingPart : goal.both-requires-in-SendingPart
both-requires-in-SendingPart c = both-adds c.hash_extent-in-SendingPart.ensures c.place_extent.ensures (omega arith)

pub bytes_after-requires-in-SendingPart : goal.bytes_after-requires-in-SendingPart
bytes_after-requires-in-SendingPart c = rw c.both-in-SendingPart.ensures (adds 8 (both-extends c.hash_extent-in-SendingPart.ensures c.place_extent.ensures) (omega arith))

pub both-requires-in-FileStatus : goal.both-requires-in-FileStatus
both-requires-in-FileStatus c = both-adds c.hash_extent-in-FileStatus.ensures c.bits_extent.ensures (omega arith)

pub bytes_after-requires-in-FileStatus : goal.bytes_after-requires-in-FileStatus
bytes_after-requires-in-FileStatus c = rw c.both-in-FileStatus.ensures (adds 2 (both-extends c.hash_extent-in-FileStatus.ensures c.bits_extent.ensures) (omega arith))

pub returns-in-Nothing : goal.returns-in-Nothing
returns-in-Nothing c = rw (c.in-Nothing.is, c.fixed.ensures) (plain-extends 0 tt tt refl (omega arith))

pub returns-in-Query : goal.returns-in-Query
returns-in-Query c = rw c.in-Query.is (recast _ _ (λ f. f) (λ f. f) refl (λ _ h. h) (omega arith) c.query_extent.ensures)

pub returns-in-Hash : goal.returns-in-Hash
returns-in-Hash c = rw c.in-Hash.is (recast _ _ (λ _. tt) (λ _. tt) refl (λ _ _. tt) (omega arith) c.hash_extent.ensures)

pub returns-in-Dword : goal.returns-in-Dword
returns-in-Dword c = rw (c.in-Dword.is, c.fixed-in-Dword.ensures) (plain-extends 4 tt tt (simp length-little_endian) (omega arith))

pub returns-in-TwoDwords : goal.returns-in-TwoDwords
returns-in-TwoDwords c = rw (c.in-TwoDwords.is, c.fixed-in-TwoDwords.ensures) (plain-extends 8 tt tt (simp (length-append, length-little_endian)) (omega arith))

pub returns-in-Text : goal.returns-in-Text
returns-in-Text c = rw c.in-Text.is (recast _ _ (λ f. f) (λ f. f) refl (λ _ _. tt) (omega arith) c.text_extent.ensures)

pub returns-in-TwoTexts : goal.returns-in-TwoTexts
returns-in-TwoTexts c =
    rw (c.in-TwoTexts.is, c.both.ensures)
    (recast _ _ (λ f. f) (λ f. f) (simp length-append) (λ _ _. tt) (omega arith) (both-extends c.text_extent-in-TwoTexts.ensures c.text_extent-in-TwoTexts-2.ensures))

pub returns-in-Address : goal.returns-in-Address
unfolding encode_address
returns-in-Address c = rw (c.in-Address.is, c.fixed-in-Address.ensures) (plain-extends 6 tt tt (simp (length-append, length-little_endian)) (omega arith))

pub returns-in-Addresses : goal.returns-in-Addresses
returns-in-Addresses c = rw c.in-Addresses.is (recast _ _ (λ f. f) (λ f. f) (simp (length-append, length-little_endian)) (λ _ h. h) (omega arith) c.addresses_extent.ensures)

pub returns-in-HashAddresses : goal.returns-in-HashAddresses
returns-in-HashAddresses c =
    rw (c.in-HashAddresses.is, c.both-in-HashAddresses.ensures)
    (recast _ _ (λ f. f.1) (λ f. (tt, f)) (simp (length-append, length-little_endian)) (λ _ h. h) (omega arith) (both-extends c.hash_extent-in-HashAddresses.ensures c.addresses_extent-in-HashAddresses.ensures))

pub returns-in-AddressDword : goal.returns-in-AddressDword
unfolding encode_address
returns-in-AddressDword c = rw (c.in-AddressDword.is, c.fixed-in-AddressDword.ensures) (plain-extends 10 tt tt (simp (length-append, length-little_endian)) (omega arith))

pub returns-in-HashAddressTags : goal.returns-in-HashAddressTags
unfolding encode_address encode_tags
returns-in-HashAddressTags c = rw c.in-HashAddressTags.is (recast _ _ (λ f. f.1) (λ f. (tt, f)) (simp (length-append, length-little_endian) (omega arith)) (λ _ h. h) (omega arith) c.entry_extent.ensures)

pub returns-in-Record : goal.returns-in-Record
unfolding encode_record encode_tags
returns-in-Record c = rw c.in-Record.is (recast _ _ (λ f. f.1) (λ f. (tt, f)) (simp (length-append, length-little_endian) (omega arith)) (λ _ h. h) (omega arith) c.entry_extent-in-Record.ensures)

pub returns-in-Records : goal.returns-in-Records
returns-in-Records c = rw c.in-Records.is (recast _ _ (λ f. f) (λ f. f) (simp (length-append, length-little_endian)) (λ _ h. h) (omega arith) c.records_extent.ensures)

pub returns-in-RecordsFlag : goal.returns-in-RecordsFlag
returns-in-RecordsFlag c =
    rw (c.in-RecordsFlag.is, c.bytes_after.ensures)
    (recast _ _ (λ f. f) (λ f. f) (simp (length-append, length-little_endian) (omega arith)) (λ _ h. h) (omega arith) (after-extends 1 c.records_extent-in-RecordsFlag.ensures))

pub returns-in-RecordAddress : goal.returns-in-RecordAddress
unfolding encode_address encode_record encode_tags
returns-in-RecordAddress c =
    rw (c.in-RecordAddress.is, c.bytes_after-in-RecordAddress.ensures)
    (recast _ _ (λ f. f.1) (λ f. (tt, f)) (simp (length-append, length-little_endian) (omega arith)) (λ _ h. h) (omega arith) (after-extends 6 c.entry_extent-in-RecordAddress.ensures))

pub returns-in-Hello : goal.returns-in-Hello
unfolding encode_address encode_record encode_tags
returns-in-Hello c =
    rw (c.in-Hello.is, c.bytes_after-in-Hello.ensures)
    (recast _ _ (λ f. f.1) (λ f. (tt, f)) (simp (length-append, length-little_endian) (omega arith)) (λ _ h. h) (omega arith) (after-extends 7 c.entry_extent-in-Hello.ensures))

pub returns-in-HashText : goal.returns-in-HashText
returns-in-HashText c =
    rw (c.in-HashText.is, c.both-in-HashText.ensures)
    (recast _ _ (λ f. f.1) (λ f. (tt, f)) (simp length-append) (λ _ _. tt) (omega arith) (both-extends c.hash_extent-in-HashText.ensures c.text_extent-in-HashText.ensures))

pub returns-in-Hashset : goal.returns-in-Hashset
returns-in-Hashset c =
    rw (c.in-Hashset.is, c.both-in-Hashset.ensures)
    (recast _ _ (λ f. f.1) (λ f. (tt, f)) (simp (length-append, length-little_endian)) (λ _ h. h) (omega arith) (both-extends c.hash_extent-in-Hashset.ensures c.hashes_extent.ensures))

pub returns-in-SendingPart : goal.returns-in-SendingPart
unfolding encode_sending_part
returns-in-SendingPart c =
    rw (c.in-SendingPart.is, c.bytes_after-in-SendingPart.ensures, c.both-in-SendingPart.ensures)
    (recast _ _ (λ _. tt) (λ _. (tt, tt)) (simp (length-append, length-little_endian) (omega arith)) (λ _ _. tt) (omega arith) (after-extends 8 (both-extends c.hash_extent-in-SendingPart.ensures c.place_extent.ensures)))

pub returns-in-RequestParts : goal.returns-in-RequestParts
unfolding encode_request_parts
returns-in-RequestParts c =
    rw (c.in-RequestParts.is, c.bytes_after-in-RequestParts.ensures)
    (recast _ _ (λ _. tt) (λ _. tt) (simp (length-append, length-little_endian) (omega arith)) (λ _ _. tt) (omega arith) (after-extends 24 c.hash_extent-in-RequestParts.ensures))

pub returns-in-FileStatus : goal.returns-in-FileStatus
unfolding encode_file_status
returns-in-FileStatus c =
    let s = c.args.src.now in
    let p = c.in-FileStatus.status in
    rw (c.in-FileStatus.is, c.bytes_after-in-FileStatus.ensures, c.both-in-FileStatus.ensures)
    (recast _ _ (λ f. held_fits p.parts s p.bits f.1) (λ f. (tt, held_word p.parts s p.bits f))
    (simp (length-append, length-little_endian, held-size) (omega arith)) (λ _ _. tt) (omega arith)
    (after-extends 2 (both-extends c.hash_extent-in-FileStatus.ensures c.bits_extent.ensures)))

pub returns-in-StatusRequest : goal.returns-in-StatusRequest
returns-in-StatusRequest c = rw (c.in-StatusRequest.is, c.fixed-in-StatusRequest.ensures) (plain-extends 4 tt tt (simp length-little_endian) (omega arith))

pub returns-in-Status : goal.returns-in-Status
returns-in-Status c = rw (c.in-Status.is, c.fixed-in-Status.ensures) (plain-extends 12 tt tt (simp (length-append, length-little_endian)) (omega arith))

pub returns-in-ExtendedStatus : goal.returns-in-ExtendedStatus
unfolding encode_extended_status
returns-in-ExtendedStatus c = rw (c.in-ExtendedStatus.is, c.fixed-in-ExtendedStatus.ensures) (plain-extends 16 tt tt (simp (length-append, length-little_endian)) (omega arith))
