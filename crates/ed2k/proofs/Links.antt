-- What the reading calls leave: the numbers of what was read, and the answer of a kind's own reader as an answer of the one reading call.
use Prim.Native.Nat.{ℕ}
use mathlib.Core.Path.{◌≡◌, ap, ◌∙◌}
use mathlib.Core.List.{List}
use mathlib.Core.Option.{some}
use Rattle.packets.specs.declared.Link.{Link}
use Rattle.packets.specs.PacketAnswers.{PacketPlaced, link_kind, link_reply, packet_reply}
use Rattle.format.specs.Messages.{known_met, server_met, part_met}
use Rattle.format.specs.Decoding.{reply}
use Rattle.format.specs.MetOrder.{decode}
use Rattle.met.specs.MetAnswers.{KnownAnswerPlaced, ServerAnswerPlaced, PartAnswerPlaced, PartAnswerSized, known_reply, server_reply, part_reply}
use Rattle.read_any.specs.declared.Message.{Message}
use Rattle.met.specs.declared.KnownMet.{KnownMet}
use Rattle.met.specs.declared.ServerMet.{ServerMet}
use Rattle.met.specs.declared.PartMet.{PartMet}
use Rattle.packets.specs.declared.Packet.{Packet}
use Rattle.ed2k.specs.declared.PacketSource.{PacketSource}
use Rattle.ed2k.specs.Calls.{KindRead, MessageRead, Numbered, PacketOut, as_message, handed_out, message_read}
use Rattle.std.specs.Prelude.{Result, Ok, Err}
use Rattle.wire.specs.declared.Rule.{Rule}

-- The numbers l are handed out, and are those of what was read.
pub handed : (old : List ℕ) {l numbers : List ℕ} {r : Numbered} → r ≡ handed_out l old → l ≡ numbers → r ≡ handed_out numbers old
handed old e q = e ∙ ap (λ l. handed_out l old) q

link-read : (link : Link) (s old : List ℕ) (a : Result Packet Rule) (r : Numbered) → packet_reply s a ≡ link_reply link s → PacketPlaced s a →
    r ≡ message_read (as_message Message.Packet a) old → MessageRead (link_kind link) s old r
link-read Link.Server s old (Ok p) r e h q = (Ok (Message.Packet p), ap some e, h, q)
link-read Link.Server s old (Err n) r e h q = (Err n, ap some e, h, q)
link-read Link.Client s old (Ok p) r e h q = (Ok (Message.Packet p), ap some e, h, q)
link-read Link.Client s old (Err n) r e h q = (Err n, ap some e, h, q)
link-read Link.Udp s old (Ok p) r e h q = (Ok (Message.Packet p), ap some e, h, q)
link-read Link.Udp s old (Err n) r e h q = (Err n, ap some e, h, q)

pub link-out : (link : Link) (s old : List ℕ) (r : Numbered) → PacketOut (PacketSource.Read link) s old r → MessageRead (link_kind link) s old r
link-out link s old r out = link-read link s old out.0 r out.1.0 out.1.1 out.2

pub kind-read : (link : Link) {s old : List ℕ} {r : Numbered} → MessageRead (link_kind link) s old r → KindRead (link_kind link) s old r
kind-read Link.Server h = h
kind-read Link.Client h = h
kind-read Link.Udp h = h

pub known_read : (s old : List ℕ) (a : Result KnownMet Rule) (r : Numbered) → known_reply s a ≡ reply (decode known_met s) → KnownAnswerPlaced s a →
    r ≡ message_read (as_message Message.KnownMet a) old → MessageRead known_met s old r
known_read s old (Ok m) r e h q = (Ok (Message.KnownMet m), ap some e, h, q)
known_read s old (Err n) r e h q = (Err n, ap some e, h, q)

pub server-read : (s old : List ℕ) (a : Result ServerMet Rule) (r : Numbered) → server_reply s a ≡ reply (decode server_met s) → ServerAnswerPlaced s a →
    r ≡ message_read (as_message Message.ServerMet a) old → MessageRead server_met s old r
server-read s old (Ok m) r e h q = (Ok (Message.ServerMet m), ap some e, h, q)
server-read s old (Err n) r e h q = (Err n, ap some e, h, q)

pub part-read : (s old : List ℕ) (a : Result (PartMet × ℕ) Rule) (r : Numbered) → part_reply s a ≡ reply (decode part_met s) → PartAnswerPlaced s a → PartAnswerSized s a →
    r ≡ message_read (as_message (λ p. Message.PartMet p.0 p.1) a) old → MessageRead part_met s old r
part-read s old (Ok (m, n)) r e h z q = (Ok (Message.PartMet m n), ap some e, (h, z), q)
part-read s old (Err n) r e h z q = (Err n, ap some e, h, q)
