-- What the answers for addresses and records stand for.
use Rattle.std.specs.Prelude.{ℕ, List}
use Rattle.format.specs.Messages as messages
use Rattle.format.specs.Decoding.{Outcome}
use Rattle.format.specs.Order.{decode_tag}
use Rattle.wire.specs.WireAnswers.{Step, step_meaning, OfStep, hash_at, HashInside, items_in, ItemsInside}
use Rattle.records.specs.declared.Address.{Address}
use Rattle.records.specs.declared.Record.{Record}

abbrev pub address_of : Address → messages.Address
address_of a = record { ip = a.ip; port = a.port }

abbrev pub address_meaning : Step Address → Outcome messages.Address
address_meaning = step_meaning address_of

abbrev pub record_in : List ℕ → Record → messages.Record
record_in s r = record { hash = hash_at s r.hash; client = r.client; port = r.port; tags = items_in decode_tag s r.tags }

abbrev pub record_meaning : List ℕ → Step Record → Outcome messages.Record
record_meaning s = step_meaning (record_in s)

-- The hash and the tag list of a record lie where the record says, wholly inside the bytes.
abbrev pub RecordPlaced : List ℕ → Record → Type 0
RecordPlaced s r = HashInside s r.hash × ItemsInside decode_tag s r.tags

abbrev pub RecordStepPlaced : List ℕ → Step Record → Type 0
RecordStepPlaced s = OfStep (RecordPlaced s)
