-- The list was read before, so that its survey is not refused (`never-refused` of Rest); the verdict is that of part_tags_from.
use Rattle.part_tags.proofs.Rest.{never-refused}
use Rattle.part_tags.proofs.check_part_tags.Goals as goal

pub returns-in_default-clause-meaning : goal.returns-in_default-clause-meaning
returns-in_default-clause-meaning c = absurd (never-refused _ c.requires (rw c.in_default.is at c.part_tags_from.ensures))
