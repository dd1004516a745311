-- Where the quick tests tell the end of the tags, it is that of the list.
use Rattle.format.specs.Decoding.{decode_many}
use Rattle.format.specs.Order.{decode_counted, decode_tag, decode_tags}
use Rattle.tags.proofs.Skips.{end-is-after}
use Rattle.tags.proofs.tag_list_end.Goals as goal

pub returns-then-end-ne0 : goal.returns-then-end-ne0
unfolding decode_tags decode_counted
returns-then-end-ne0 c = rw (← c.dword.ensures, c.in-Ok.is) (end-is-after (decode_many c.in-Ok.count decode_tag c.args.s.now c.in-Ok.first.at) c.tags_end-end.ensures c.if-end-ne0.true)
