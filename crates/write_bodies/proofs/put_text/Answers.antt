use Rattle.write_items.proofs.Puts.{string-puts}
use Rattle.write_bodies.proofs.put_text.Goals as goal

pub returns : goal.returns
returns c = string-puts c.bytes_at-text.ensures c.requires.0 c.put_string.ensures.written c.put_string.ensures.output
