-- Each kind has its reader (`kind-read` of Links); another number is no kind (`unlisted-in` of Arms).
use Rattle.ed2k.proofs.Links.{kind-read}
use Rattle.ed2k.proofs.read.ed2k_read.Goals as goal

pub returns-then-kind-le-LAST_LINK : goal.returns-then-kind-le-LAST_LINK
returns-then-kind-le-LAST_LINK c = rw c.link_of.ensures (kind-read c.link_of.result c.read_link.ensures)
