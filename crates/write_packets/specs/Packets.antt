-- What the writer of packets writes: the message that a packet of the code stands for on a link, when there is one, and the parts of
-- its frame.
use Rattle.std.specs.Prelude.{◌≡◌, Bool, false, not, List, ◌++◌, ℕ, ◌+◌, length, eqb}
use Rattle.std.proofs.Math.Option.{Option, none, some}
use Rattle.format.specs.Tables.{lookup, pick}
use Rattle.format.specs.Messages as messages
use Rattle.format.specs.Messages.{Kind, Message}
use Rattle.format.specs.Messages.{nothing_body, query_body, hash_body, dword_body, two_dwords_body, text_body, two_texts_body, address_body, addresses_body, hash_addresses_body, address_dword_body, hash_address_tags_body, record_body, records_body, records_flag_body, record_address_body, hello_body, hash_text_body, hashset_body, sending_part_body, request_parts_body, file_status_body, status_request_body, status_body}
use Rattle.format.specs.Layout.{byte, dword}
use Rattle.format.specs.Decoding.{Outcome, fault, kind, refused}
use Rattle.format.specs.Writing.{ValuesFit}
use Rattle.output.specs.WriteAnswers.{number_of}
use Rattle.bodies.specs.BodyAnswers.{body_in}
use Rattle.packets.specs.declared.Link.{Link}
use Rattle.packets.specs.declared.Packet.{Packet}
use Rattle.packets.specs.PacketAnswers.{link_kind, opcodes_of, packet_in}
use Rattle.format.specs.RoundTrip.{IsThere}
use Rattle.check_bodies.specs.declared.BodyCheck.{BodyCheck}
use Rattle.check_bodies.specs.Bodies.{BodyEnds, BodyRule, body_there, bytes_of}

abbrev pub kind_of : Link → Kind
kind_of = link_kind

abbrev pub packet_of : (link : Link) → List ℕ → Packet → Message (kind_of link)
packet_of Link.Server s p = packet_in s p
packet_of Link.Client s p = packet_in s p
packet_of Link.Udp s p = packet_in s p

-- A number for each shape, by which shapes are compared.
abbrev pub spec_shape_number : messages.Shape → ℕ
spec_shape_number nothing_body = 0
spec_shape_number query_body = 1
spec_shape_number hash_body = 2
spec_shape_number dword_body = 3
spec_shape_number two_dwords_body = 4
spec_shape_number text_body = 5
spec_shape_number two_texts_body = 6
spec_shape_number address_body = 7
spec_shape_number addresses_body = 8
spec_shape_number hash_addresses_body = 9
spec_shape_number address_dword_body = 10
spec_shape_number hash_address_tags_body = 11
spec_shape_number record_body = 12
spec_shape_number records_body = 13
spec_shape_number records_flag_body = 14
spec_shape_number record_address_body = 15
spec_shape_number hello_body = 16
spec_shape_number hash_text_body = 17
spec_shape_number hashset_body = 18
spec_shape_number sending_part_body = 19
spec_shape_number request_parts_body = 20
spec_shape_number file_status_body = 21
spec_shape_number status_request_body = 22
spec_shape_number status_body = 23

-- The link lists the opcode with another shape than that of the body. An opcode that it does not list is left to the reader's number.
abbrev pub unlike : Option messages.Shape → messages.Shape → Bool
unlike none own = false
unlike (some listed) own = not (eqb (spec_shape_number listed) (spec_shape_number own))

abbrev pub spec_another_shape : Link → List ℕ → Packet → Bool
spec_another_shape link s p = unlike (lookup (opcodes_of link) p.opcode) (body_in s p.body).0

-- A body of another shape than that of its opcode is no message of the link: 4. Else the places of the body decide.
abbrev pub packet_there : Link → List ℕ → Packet → Outcome (Unit {0})
packet_there link s p = pick (spec_another_shape link s p) (refused (fault kind 0 1)) (body_there s p.body)

-- A body of the link's own shape, whose places and counts are in order, and what was found out about it.
pub record Ready (link : Link) (s : List ℕ) (p : Packet) (r : BodyCheck) : Type 0 where
  pub own : spec_another_shape link s p ≡ false
  pub there : IsThere (body_there s p.body)
  pub fit : ValuesFit (body_in s p.body).0 (body_in s p.body).1
  pub size : r.size ≡ length (bytes_of (body_in s p.body))
  pub ends : BodyEnds s p.body r.end
  pub rule : BodyRule (body_in s p.body) (number_of r.rule)

-- What stands before the body: the opening byte, on TCP the length of all that follows it, the opcode.
abbrev pub spec_head_size : Link → ℕ
spec_head_size Link.Server = 6
spec_head_size Link.Client = 6
spec_head_size Link.Udp = 2

abbrev pub head_bytes : Link → (opening opcode size : ℕ) → List ℕ
head_bytes Link.Server opening opcode size = byte opening ++ (dword (1 + size) ++ byte opcode)
head_bytes Link.Client opening opcode size = byte opening ++ (dword (1 + size) ++ byte opcode)
head_bytes Link.Udp opening opcode size = byte opening ++ byte opcode

-- What the reader says of the finished bytes once they are within the byte ceiling: 2 for an opening byte that the link does not have,
-- 4 for an opcode that it does not list, else what it says of the body.
abbrev pub opcode_number : Option messages.Shape → (rule : ℕ) → ℕ
opcode_number none rule = 4
opcode_number (some listed) rule = rule

abbrev pub spec_reader_number : Link → (opening opcode rule : ℕ) → ℕ
spec_reader_number link opening opcode rule = pick (eqb opening 0xE3) (opcode_number (lookup (opcodes_of link) opcode) rule) 2
