-- A part.met made of the form and the hash of one, a date, and the other tags of another with gaps after them.
use Rattle.std.specs.Prelude.{ℕ, List}
use Rattle.format.specs.Gaps.{Gap}
use Rattle.format.specs.Messages.{PartMet}
use Rattle.format.specs.PutGaps.{regapped, tags_of}
use Rattle.format.specs.Merging.{form_of, hash_of, part_of}
use Rattle.met.specs.declared.PartMet as code
use Rattle.put_gaps.specs.Pieces.{head_of}

abbrev pub joined : (form : PartMet) → (date : ℕ) → (part : PartMet) → List Gap → PartMet
joined form date part gaps = part_of (form_of form) date (hash_of form) (regapped gaps (tags_of part))

-- Where the date lies.
abbrev pub date_place : code.PartMet → ℕ
date_place (code.PartMet.E0 e) = 1
date_place (code.PartMet.E1 m) = 2

-- All before the tag list, with another date.
abbrev pub dated_head : PartMet → (date : ℕ) → List ℕ
dated_head m date = head_of (part_of (form_of m) date (hash_of m) (tags_of m))
