-- What each writer of an entry or a list does: its number, how many bytes it wrote, and the output afterwards. Callers compose lists of
-- these. None is a message of its own, so there is no byte ceiling.
use Rattle.std.specs.Prelude.{◌≡◌, List, ℕ, length, leb}
use Rattle.format.specs.Tables.{pick}
use Rattle.format.specs.Messages as messages
use Rattle.format.specs.Layout.{byte, counted, dword, encode_address, encode_record}
use Rattle.format.specs.Decoding.{Fault, number, refused}
use Rattle.format.specs.Order.{decode_address, decode_record}
use Rattle.format.specs.Writing.{ValuesFit, Written, unwritten, written_into}
use Rattle.wire.specs.declared.Items.{Items}
use Rattle.wire.specs.WireAnswers.{items_in}
use Rattle.records.specs.declared.Record.{Record}
use Rattle.records.specs.RecordAnswers.{record_in}
use Rattle.bodies.specs.declared.Body.{Body}
use Rattle.bodies.specs.BodyAnswers.{body_in}
use Rattle.write_items.specs.There.{items_there}
use Rattle.format.specs.RoundTrip.{IsThere}
use Rattle.write_items.specs.Writers.{write_there}
use Rattle.check_bodies.specs.Bodies.{body_there, bytes_of, record_there}

unfoldable pub spec_write_address : messages.Address → List ℕ → Written
spec_write_address a output = written_into (encode_address a) output

unfoldable pub spec_write_record : List ℕ → Record → List ℕ → Written
spec_write_record s r output = write_there (record_there s r) output (written_into (encode_record (record_in s r)) output)

-- A BYTE count, then the addresses: 6 above 255 of them.
unfoldable pub spec_write_addresses : List ℕ → Items → List ℕ → Written
spec_write_addresses s l output =
    let items = items_in decode_address s l in
    write_there (items_there decode_address s l) output
    (pick (leb (length items) 255) (written_into (counted byte encode_address items) output) (unwritten 6 output))

-- A DWORD count, then the records. Every count fits.
unfoldable pub spec_write_records : List ℕ → Items → List ℕ → Written
spec_write_records s l output =
    write_there (items_there decode_record s l) output (written_into (counted dword encode_record (items_in decode_record s l)) output)

-- A body that is written by itself, with no packet around it.
pub data WritesBody (s : List ℕ) (b : Body) (output : List ℕ) : Written → Type 0 where
  absent : (f : Fault) → body_there s b ≡ refused f → WritesBody s b output (unwritten (number f.rule) output)
  overflows : IsThere (body_there s b) → (ValuesFit (body_in s b).0 (body_in s b).1 → ⊥) → WritesBody s b output (unwritten 6 output)
  tries : IsThere (body_there s b) → ValuesFit (body_in s b).0 (body_in s b).1 → WritesBody s b output (written_into (bytes_of (body_in s b)) output)
