-- The reading of the places that a part.met gives, the first at fault deciding.
use Rattle.std.specs.Prelude.{List, ℕ}
use Rattle.format.specs.Decoding.{Outcome, decode_run, got}
use Rattle.format.specs.Order.{decode_hash, decode_tag}
use Rattle.met.specs.declared.HashBlocks.{HashBlocks}
use Rattle.met.specs.declared.PartE1.{PartE1}
use Rattle.met.specs.declared.PartMet.{PartMet}
use Rattle.write_items.specs.There.{both_there, hash_there, items_there}
use Rattle.write_met.specs.MetWrites.{file_entry_there}

abbrev pub blocks_there : List ℕ → HashBlocks → Outcome (Unit {0})
blocks_there s HashBlocks.Nothing = got tt 0
blocks_there s (HashBlocks.Parts l) = items_there decode_hash s l
blocks_there s (HashBlocks.Blocks k) = items_there (decode_run 8) s k
blocks_there s (HashBlocks.Both l k) = both_there (items_there decode_hash s l) (items_there (decode_run 8) s k)

abbrev pub part_e1_there : List ℕ → PartE1 → Outcome (Unit {0})
part_e1_there s m = both_there (hash_there s m.hash) (both_there (items_there decode_tag s m.tags) (blocks_there s m.blocks))

abbrev pub part_there : List ℕ → PartMet → Outcome (Unit {0})
part_there s (PartMet.E0 e) = file_entry_there s e
part_there s (PartMet.E1 m) = part_e1_there s m
