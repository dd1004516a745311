-- What the private steps answer: how many bytes a list has, and the number for a file before the room is asked for.
use Rattle.std.specs.Prelude.{ℕ, ◌+◌, ◌≤◌, ◌≡◌, List, ◌++◌, eqb, leb}
use Rattle.format.specs.Tables.{pick}
use Rattle.format.specs.Layout.{dword, word}
use Rattle.format.specs.Rules.{met_ceiling}
use Rattle.format.specs.Decoding.{Outcome, bytes_at, got, refused}
use Rattle.format.specs.Order.{decode_hash, decode_tag}
use Rattle.wire.specs.declared.Fault.{Fault}
use Rattle.wire.specs.WireAnswers.{fault_meaning, hash_at}
use Rattle.met.specs.declared.FileEntry.{FileEntry}
use Rattle.write_items.specs.There.{hash_there, items_there}
use Rattle.write_met.specs.MetWrites.{file_entry_there}
use Rattle.std.specs.Prelude.{Result, Ok, Err}
use Rattle.wire.specs.declared.Items.{Items}
use Rattle.wire.specs.WireAnswers.{Step}

-- The length of what lies from a place on says where it ends.
abbrev pub length_meaning : ℕ → Result ℕ Fault → Outcome (Unit {0})
length_meaning at (Ok n) = got tt (at + n)
length_meaning at (Err f) = refused (fault_meaning f)

-- Where a list ends, and that it does not end before its first item.
abbrev pub items_end : Step Items → Outcome (Unit {0})
items_end (Ok (l, c)) = got tt c.at
items_end (Err f) = refused (fault_meaning f)

abbrev pub EndsAfter : ℕ → Step Items → Type 0
EndsAfter at (Ok (l, c)) = at ≤ c.at
EndsAfter at (Err f) = Unit {0}

-- The places of an entry are there, and its lists have these lengths.
abbrev pub EntryMeaning : List ℕ → FileEntry → Result (ℕ × ℕ) Fault → Type 0
EntryMeaning s e (Ok (p, t)) =
    (got tt (e.hash + 16) ≡ hash_there s e.hash) × ((got tt (e.parts.at + p) ≡ items_there decode_hash s e.parts) ×
    (got tt (e.tags.at + t) ≡ items_there decode_tag s e.tags))
EntryMeaning s e (Err f) = refused (fault_meaning f) ≡ file_entry_there s e

-- What stands before the tags of an entry whose part hashes have p bytes.
abbrev pub entry_head : List ℕ → FileEntry → ℕ → List ℕ
entry_head s e p = dword e.date ++ (hash_at s e.hash ++ (word e.parts.count ++ bytes_at s e.parts.at p))

-- known.met and server.met whose counts fit: the byte ceiling (6), then the opening byte (2).
unfoldable pub spec_opening_number : ℕ → ℕ → ℕ
spec_opening_number opening size = pick (leb size met_ceiling) (pick (eqb opening 0x0E) 0 2) 6
