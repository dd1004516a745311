-- A tag that no offset comes after is refused.
use Rattle.part_tags.proofs.TagLaws.{is-refused}
use Rattle.part_tags.proofs.survey.fault_at.Goals as goal

pub unwrap_err-requires : goal.unwrap_err-requires
unwrap_err-requires c = is-refused _ _ _ c.read_tag.ensures.result_value c.requires
