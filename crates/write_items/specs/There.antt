-- The reading of a place that a message gives: a fault, or that what should lie there does.
use Rattle.std.specs.Prelude.{List, ℕ}
use Rattle.format.specs.Decoding.{Decoder, Outcome, decode_many, decode_run, ends, got, refused}
use Rattle.format.specs.Order.{decode_hash}
use Rattle.wire.specs.declared.Items.{Items}
use Rattle.wire.specs.declared.Place.{Place}

-- A message that is given by its values alone has no place, so none is at fault.
abbrev pub no_places : Outcome (Unit {0})
no_places = got tt 0

abbrev pub hash_there : List ℕ → ℕ → Outcome (Unit {0})
hash_there s at = ends (decode_hash s at)

abbrev pub place_there : List ℕ → Place → Outcome (Unit {0})
place_there s p = ends (decode_run p.len s p.at)

abbrev pub items_there : {A : Type 0} → Decoder A → List ℕ → Items → Outcome (Unit {0})
items_there d s l = ends (decode_many l.count d s l.at)

-- The first place at fault decides.
abbrev pub both_there : Outcome (Unit {0}) → Outcome (Unit {0}) → Outcome (Unit {0})
both_there (refused f) second = refused f
both_there (got u next) second = second
