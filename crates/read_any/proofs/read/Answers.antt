-- The reader of each kind, its answer taken as that of any kind (AsKind).
use Rattle.std.proofs.Common.{refl, rules}
use Rattle.read_any.specs.AnyAnswers.{kind_of}
use Rattle.read_any.proofs.AsKind.{demand3_of, packet_is, known_is, server_is, part_is}
use Rattle.read_any.proofs.read.Goals as goal

pub returns-in-ServerLink-clause-meaning : goal.returns-in-ServerLink-clause-meaning
returns-in-ServerLink-clause-meaning c =
    rw (c.in-ServerLink.is, packet_is c.args.s.now _ c.map.result c.map.ensures.cases, c.read_packet.ensures.meaning) refl

pub returns-in-ServerLink-clause-demand3 : goal.returns-in-ServerLink-clause-demand3
returns-in-ServerLink-clause-demand3 c = demand3_of (kind_of c.args.kind) c.args.s.now c.type_inv.s (returns-in-ServerLink-clause-meaning c)

pub returns-in-ClientLink-clause-meaning : goal.returns-in-ClientLink-clause-meaning
returns-in-ClientLink-clause-meaning c =
    rw (c.in-ClientLink.is, packet_is c.args.s.now _ c.map-in-ClientLink.result c.map-in-ClientLink.ensures.cases, c.read_packet-in-ClientLink.ensures.meaning) refl

pub returns-in-ClientLink-clause-demand3 : goal.returns-in-ClientLink-clause-demand3
returns-in-ClientLink-clause-demand3 c = demand3_of (kind_of c.args.kind) c.args.s.now c.type_inv.s (returns-in-ClientLink-clause-meaning c)

pub returns-in-UdpLink-clause-meaning : goal.returns-in-UdpLink-clause-meaning
returns-in-UdpLink-clause-meaning c =
    rw (c.in-UdpLink.is, packet_is c.args.s.now _ c.map-in-UdpLink.result c.map-in-UdpLink.ensures.cases, c.read_packet-in-UdpLink.ensures.meaning) refl

pub returns-in-UdpLink-clause-demand3 : goal.returns-in-UdpLink-clause-demand3
returns-in-UdpLink-clause-demand3 c = demand3_of (kind_of c.args.kind) c.args.s.now c.type_inv.s (returns-in-UdpLink-clause-meaning c)

pub returns-in-KnownMet-clause-meaning : goal.returns-in-KnownMet-clause-meaning
returns-in-KnownMet-clause-meaning c =
    rw (c.in-KnownMet.is, known_is c.args.s.now _ c.map-in-KnownMet.result c.map-in-KnownMet.ensures.cases, c.read_known_met.ensures.meaning) refl

pub returns-in-KnownMet-clause-demand3 : goal.returns-in-KnownMet-clause-demand3
returns-in-KnownMet-clause-demand3 c = demand3_of (kind_of c.args.kind) c.args.s.now c.type_inv.s (returns-in-KnownMet-clause-meaning c)

pub returns-in-ServerMet-clause-meaning : goal.returns-in-ServerMet-clause-meaning
returns-in-ServerMet-clause-meaning c =
    rw (c.in-ServerMet.is, server_is c.args.s.now _ c.map-in-ServerMet.result c.map-in-ServerMet.ensures.cases, c.read_server_met.ensures.meaning) refl

pub returns-in-ServerMet-clause-demand3 : goal.returns-in-ServerMet-clause-demand3
returns-in-ServerMet-clause-demand3 c = demand3_of (kind_of c.args.kind) c.args.s.now c.type_inv.s (returns-in-ServerMet-clause-meaning c)

pub returns-in-PartMet-clause-meaning : goal.returns-in-PartMet-clause-meaning
returns-in-PartMet-clause-meaning c =
    rw (c.in-PartMet.is, part_is c.args.s.now _ (λ p n m h. search rules) _ c.map-in-PartMet.result c.map-in-PartMet.ensures.cases, c.read_part_met.ensures.meaning) refl

pub returns-in-PartMet-clause-demand3 : goal.returns-in-PartMet-clause-demand3
returns-in-PartMet-clause-demand3 c = demand3_of (kind_of c.args.kind) c.args.s.now c.type_inv.s (returns-in-PartMet-clause-meaning c)
