-- What the answers for packets stand for.
use Rattle.std.specs.Prelude.{ℕ, ◌≡◌, List}
use Rattle.std.proofs.Math.Option.{Option, none, some}
use Rattle.format.specs.Messages as messages
use Rattle.format.specs.Messages.{Opcodes, server_opcodes, client_opcodes, udp_opcodes, server, client, udp, server_link, client_link, udp_link}
use Rattle.format.specs.Layout.{encode}
use Rattle.format.specs.Rules.{Valid}
use Rattle.format.specs.Decoding as decoding
use Rattle.format.specs.Decoding.{Outcome, refused, got, Decoder, ◌>>=◌, pure, Reply, reply, ends}
use Rattle.format.specs.PacketOrder.{decode_body, decode_length, decode_tcp, decode_udp}
use Rattle.format.specs.MetOrder.{decode}
use Rattle.wire.specs.declared.Fault.{Fault}
use Rattle.wire.specs.WireAnswers.{fault_meaning}
use Rattle.bodies.specs.BodyAnswers.{shape_of, body_in, BodyPlaced}
use Rattle.packets.specs.declared.Link.{Link}
use Rattle.bodies.specs.declared.Shape.{Shape}
use Rattle.packets.specs.declared.Packet.{Packet}
use Rattle.std.specs.Prelude as prelude
use Rattle.std.specs.Prelude.{Result, Ok, Err}
use Rattle.wire.specs.declared.Rule.{Rule}
use Rattle.wire.specs.WireAnswers.{Step, step_meaning, reply_meaning, option_meaning, OfReply}

abbrev pub link_kind : Link → messages.Kind
link_kind Link.Server = server_link
link_kind Link.Client = client_link
link_kind Link.Udp = udp_link

abbrev pub opcodes_of : Link → Opcodes
opcodes_of Link.Server = server_opcodes
opcodes_of Link.Client = client_opcodes
opcodes_of Link.Udp = udp_opcodes

abbrev pub decode_link : Link → Decoder messages.Packet
decode_link Link.Server = decode_tcp server
decode_link Link.Client = decode_tcp client
decode_link Link.Udp = decode_udp udp

-- What comes between the opening byte and the opcode.
abbrev pub decode_frame : Link → Decoder (Unit {0})
decode_frame Link.Server = λ s at. ends (decode_length s at)
decode_frame Link.Client = λ s at. ends (decode_length s at)
decode_frame Link.Udp = pure tt

abbrev pub shape_meaning : prelude.Option Shape → Option messages.Shape
shape_meaning = option_meaning shape_of

abbrev pub head_meaning : Step (ℕ × Shape) → Outcome (ℕ × messages.Shape)
head_meaning = step_meaning (λ h. (h.0, shape_of h.1))

-- The packet whose head was read: its body lies after.
abbrev pub packet_after : List ℕ → Step (ℕ × Shape) → Outcome messages.Packet
packet_after s (Ok ((n, shape), c)) = (decode_body (shape_of shape) >>= (λ body. pure (record { opening = 0xE3; opcode = n; body = body }))) s c.at
packet_after s (Err f) = refused (fault_meaning f)

abbrev pub packet_in : List ℕ → Packet → messages.Packet
packet_in s p = record { opening = p.opening; opcode = p.opcode; body = body_in s p.body }

-- What a caller gets.
abbrev pub packet_reply : List ℕ → Result Packet Rule → Reply messages.Packet
packet_reply s = reply_meaning (packet_in s)

abbrev pub PacketPlaced : List ℕ → Result Packet Rule → Type 0
PacketPlaced s = OfReply (λ p. BodyPlaced s p.body)

-- A step as the answer that a caller gets, and its reason: the fault, or none.
abbrev pub answer_of : Result Packet Fault → Result Packet Rule
answer_of (Ok p) = Ok p
answer_of (Err f) = Err f.rule

abbrev pub step_reason : Result Packet Fault → Option decoding.Fault
step_reason (Ok p) = none
step_reason (Err f) = some (fault_meaning f)

-- The format's answer for the bytes of a packet on a link, and when it accepts them as a packet.
abbrev pub link_reply : Link → List ℕ → Reply messages.Packet
link_reply Link.Server s = reply (decode server_link s)
link_reply Link.Client s = reply (decode client_link s)
link_reply Link.Udp s = reply (decode udp_link s)

abbrev pub LinkAccepts : Link → List ℕ → messages.Packet → Type 0
LinkAccepts Link.Server s m = (s ≡ encode server_link m) × Valid server_link m
LinkAccepts Link.Client s m = (s ≡ encode client_link m) × Valid client_link m
LinkAccepts Link.Udp s m = (s ≡ encode udp_link m) × Valid udp_link m
