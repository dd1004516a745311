use Rattle.write_bodies.proofs.RecordEntries.{address-roomless, address-writes}
use Rattle.records.specs.RecordAnswers.{address_of}
use Rattle.write_bodies.proofs.write_address.Goals as goal

pub returns-then-out-lt-ADDRESS_BYTES : goal.returns-then-out-lt-ADDRESS_BYTES
returns-then-out-lt-ADDRESS_BYTES c = address-roomless (address_of c.args.address) c.args.out.now c.if-out-lt-ADDRESS_BYTES.true

pub returns : goal.returns
returns c = address-writes (address_of c.args.address) c.args.out.now c.if-out-lt-ADDRESS_BYTES.false c.put_address.ensures
