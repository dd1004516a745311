-- The reading of the places that a met file gives, the first at fault deciding.
use Rattle.std.specs.Prelude.{List, ℕ}
use Rattle.format.specs.Decoding.{Outcome}
use Rattle.format.specs.Order.{decode_hash, decode_tag}
use Rattle.format.specs.MetOrder.{decode_file_entry, decode_server_entry}
use Rattle.met.specs.declared.FileEntry.{FileEntry}
use Rattle.met.specs.declared.ServerEntry.{ServerEntry}
use Rattle.met.specs.declared.KnownMet.{KnownMet}
use Rattle.met.specs.declared.ServerMet.{ServerMet}
use Rattle.write_items.specs.There.{both_there, hash_there, items_there, place_there}

abbrev pub file_entry_there : List ℕ → FileEntry → Outcome (Unit {0})
file_entry_there s e =
    both_there (hash_there s e.hash) (both_there (items_there decode_hash s e.parts) (items_there decode_tag s e.tags))

abbrev pub server_entry_there : List ℕ → ServerEntry → Outcome (Unit {0})
server_entry_there s e = items_there decode_tag s e.tags

abbrev pub known_there : List ℕ → KnownMet → Outcome (Unit {0})
known_there s m = items_there decode_file_entry s m.entries

abbrev pub server_there : List ℕ → ServerMet → Outcome (Unit {0})
server_there s m = both_there (items_there decode_server_entry s m.entries) (place_there s m.tail)
