use Rattle.ed2k.proofs.Links.{link-out}
use Rattle.ed2k.proofs.read.read_link.Goals as goal

pub returns : goal.returns
returns c =
    let given = c.args in
    link-out given.link given.bytes.now given.fields.now _ c.hand_out_packet.ensures
