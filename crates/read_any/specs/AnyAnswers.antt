-- What the answers of the one reading call stand for, and what the reading program prints.
use Rattle.std.specs.Prelude.{ℕ, List, [], ◌∷◌, length}
use Rattle.std.proofs.Math.Option.{Option, none, some}
use Rattle.format.specs.Messages as messages
use Rattle.format.specs.Messages.{server_link, client_link, udp_link, known_met, server_met, part_met, lone_query, lone_tags, e0, e1}
use Rattle.format.specs.Decoding.{Reply, refused_with, message, reply, number}
use Rattle.format.specs.MetOrder.{decode}
use Rattle.packets.specs.PacketAnswers.{packet_reply, PacketPlaced}
use Rattle.met.specs.MetAnswers.{known_reply, server_reply, part_reply, KnownAnswerPlaced, ServerAnswerPlaced, PartAnswerPlaced, PartAnswerSized}
use Rattle.met.specs.declared.PartMet.{PartMet}
use Rattle.read_any.specs.declared.Kind.{Kind}
use Rattle.read_any.specs.declared.Message.{Message}
use Rattle.read_any.specs.declared.Summary.{Summary}
use Rattle.std.specs.Prelude as prelude
use Rattle.std.specs.Prelude.{Result, Ok, Err}
use Rattle.wire.specs.declared.Rule.{Rule}
use Rattle.wire.specs.WireAnswers.{option_meaning, rule_meaning}

abbrev pub kind_of : Kind → messages.Kind
kind_of Kind.ServerLink = server_link
kind_of Kind.ClientLink = client_link
kind_of Kind.UdpLink = udp_link
kind_of Kind.KnownMet = known_met
kind_of Kind.ServerMet = server_met
kind_of Kind.PartMet = part_met

-- An answer as one about packets, known.met, server.met or part.met; nothing where it is about another.
abbrev pub packet_answer : List ℕ → Result Message Rule → Option (Reply messages.Packet)
packet_answer s (Ok (Message.Packet p)) = some (packet_reply s (Ok p))
packet_answer s (Ok (Message.KnownMet m)) = none
packet_answer s (Ok (Message.ServerMet m)) = none
packet_answer s (Ok (Message.PartMet m n)) = none
packet_answer s (Err rule) = some (refused_with (number (rule_meaning rule)))

abbrev pub known_answer : List ℕ → Result Message Rule → Option (Reply messages.KnownMet)
known_answer s (Ok (Message.Packet p)) = none
known_answer s (Ok (Message.KnownMet m)) = some (known_reply s (Ok m))
known_answer s (Ok (Message.ServerMet m)) = none
known_answer s (Ok (Message.PartMet m n)) = none
known_answer s (Err rule) = some (refused_with (number (rule_meaning rule)))

abbrev pub server_answer : List ℕ → Result Message Rule → Option (Reply messages.ServerMet)
server_answer s (Ok (Message.Packet p)) = none
server_answer s (Ok (Message.KnownMet m)) = none
server_answer s (Ok (Message.ServerMet m)) = some (server_reply s (Ok m))
server_answer s (Ok (Message.PartMet m n)) = none
server_answer s (Err rule) = some (refused_with (number (rule_meaning rule)))

abbrev pub part_answer : List ℕ → Result Message Rule → Option (Reply messages.PartMet)
part_answer s (Ok (Message.Packet p)) = none
part_answer s (Ok (Message.KnownMet m)) = none
part_answer s (Ok (Message.ServerMet m)) = none
part_answer s (Ok (Message.PartMet m n)) = some (part_reply s (Ok (m, n)))
part_answer s (Err rule) = some (refused_with (number (rule_meaning rule)))

-- An answer as one about a kind. The lone query and the lone tag list have calls of their own.
abbrev pub answer_in : (k : messages.Kind) → List ℕ → Result Message Rule → Option (Reply (messages.Message k))
answer_in server_link s r = packet_answer s r
answer_in client_link s r = packet_answer s r
answer_in udp_link s r = packet_answer s r
answer_in known_met s r = known_answer s r
answer_in server_met s r = server_answer s r
answer_in part_met s r = part_answer s r
answer_in lone_query s r = none
answer_in lone_tags s r = none

-- Each list of an answer lies where it says, and the size beside a part.met is that of its file.
abbrev pub AnswerPlaced : List ℕ → Result Message Rule → Type 0
AnswerPlaced s (Ok (Message.Packet p)) = PacketPlaced s (Ok p)
AnswerPlaced s (Ok (Message.KnownMet m)) = KnownAnswerPlaced s (Ok m)
AnswerPlaced s (Ok (Message.ServerMet m)) = ServerAnswerPlaced s (Ok m)
AnswerPlaced s (Ok (Message.PartMet m n)) =
    PartAnswerPlaced s (Ok (m, n)) × PartAnswerSized s (Ok (m, n))
AnswerPlaced s (Err rule) = Unit {0}

-- The reading program's line: an accepted input's opcode or opening byte and its length, or the number of the refusal.
abbrev pub part_code : messages.PartMet → ℕ
part_code (e0 e) = 0xE0
part_code (e1 m) = 0xE1

abbrev pub code_in : (k : messages.Kind) → messages.Message k → ℕ
code_in server_link m = m.opcode
code_in client_link m = m.opcode
code_in udp_link m = m.opcode
code_in known_met m = m.opening
code_in server_met m = m.opening
code_in part_met m = part_code m
code_in lone_query m = 0
code_in lone_tags m = 0

abbrev pub summary_for : (k : messages.Kind) → ℕ → Reply (messages.Message k) → Summary
summary_for k n (refused_with number) = record { number = number; code = 0; length = 0 }
summary_for k n (message m) = record { number = 0; code = code_in k m; length = n }

unfoldable pub summary_of : messages.Kind → List ℕ → Summary
summary_of k s = summary_for k (length s) (reply (decode k s))

abbrev pub part_met_code : PartMet → ℕ
part_met_code (PartMet.E0 e) = 0xE0
part_met_code (PartMet.E1 m) = 0xE1

abbrev pub code_of : Message → ℕ
code_of (Message.Packet p) = p.opcode
code_of (Message.KnownMet m) = m.opening
code_of (Message.ServerMet m) = m.opening
code_of (Message.PartMet m n) = part_met_code m

-- The letters of the reading program.
abbrev pub letters : List (ℕ × messages.Kind)
letters =
    (0x73, server_link) ∷ (0x63, client_link) ∷ (0x75, udp_link) ∷ (0x6B, known_met) ∷ (0x76, server_met) ∷ (0x70, part_met) ∷ []

abbrev pub lettered_of : prelude.Option Kind → Option messages.Kind
lettered_of = option_meaning kind_of
