-- The number for a packet before the room is asked for.
use mathlib.Core.Path.{◌≡◌, refl, ap, ◌∙◌}
use mathlib.Core.Bool.{Bool, true, false}
use mathlib.Core.Option.{Option, none, some}
use mathlib.Core.List.{List, [], ◌∷◌}
use Prim.Native.Nat.{ℕ, ◌+◌, ◌≤◌, ◌<◌}
use native.Mathlib.Omega.{arith}
use lib.ListN.{length, length-append}
use lib.Dec.{eqb}
use borrow.Author.Tests.{eq-eqb, le-leb, lt-leb}
use Rattle.format.specs.Tables.{lookup, pick}
use Rattle.format.specs.Messages as messages
use Rattle.format.specs.Messages.{Kind, Message, Opcodes, client, client_link, client_opcodes, server, server_link, server_opcodes, udp, udp_link, udp_opcodes}
use Rattle.format.specs.Layout.{encode, encode_body, encode_tcp, encode_udp}
use Rattle.format.specs.Rules.{Byte, ceiling, packet_ceiling}
use Rattle.format.specs.Decoding.{Answer, Decoder, Fault, Rule, accepted, decode_whole, fault, got, number, refusal, refused}
use Rattle.format.specs.MetOrder.{decode}
use Rattle.format.specs.Writing.{CountsFit, Judged, ValuesFit, another, fine, refused_for}
use Rattle.format.proofs.Codec.{length-little_endian}
use Rattle.format.proofs.Packets.{length-tcp}
use Rattle.bodies.specs.BodyAnswers.{body_in}
use Rattle.packets.specs.declared.Link.{Link}
use Rattle.packets.specs.declared.Packet.{Packet}
use Rattle.packets.specs.PacketAnswers.{packet_in}
use Rattle.check_bodies.specs.Bodies.{BodyRule, breaks, bytes_of, differs, keeps}
use Rattle.write_packets.specs.Packets.{kind_of, opcode_number, packet_of, spec_another_shape, spec_head_size, spec_reader_number, unlike}
use Rattle.write_packets.proofs.Frames.{Frame, tcp-frame, udp-frame, with_body}
use Rattle.write_packets.proofs.Shapes.{same_shape}

-- What an answer says of the message whose bytes were read.
data Says {A : Type 0} (m : A) : Answer A → ℕ → Type 0 where
  refuses : (f : Fault) → Says m (refusal f) (number f.rule)
  accepts : (n : A) → (n ≡ m → ⊥) → Says m (accepted n) 5
  agrees : Says m (accepted m) 0

judged : (k : Kind) (m : Message k) → CountsFit k m → {a : Answer (Message k)} {n : ℕ} → decode k (encode k m) ≡ a → Says m a n → Judged k m n
judged k m fit e (refuses f) = refused_for fit f e
judged k m fit e (accepts n other) = another fit n other e
judged k m fit e agrees = fine fit e

module _ (table : Opcodes) {decoder : Decoder messages.Packet} {m : messages.Packet} {s : List ℕ} {head : ℕ} (F : Frame ((0xE3, table) ∷ []) decoder m s head)
    (within : length s ≤ packet_ceiling) where
  abbrev answer : Answer messages.Packet
  answer = decode_whole packet_ceiling decoder s

  whole-refuses : (f : Fault) → decoder s 0 ≡ refused f → Says m answer (number f.rule)
  whole-refuses f e = rw (le-leb (length s) packet_ceiling within, e) (refuses f)

  whole-accepts : (n : messages.Packet) → (n ≡ m → ⊥) → decoder s 0 ≡ got n (length s) → Says m answer 5
  whole-accepts n other e = rw (le-leb (length s) packet_ceiling within, e, eq-eqb (length s) (length s) refl) (accepts n other)

  whole-agrees : decoder s 0 ≡ got m (length s) → Says m answer 0
  whole-agrees e = rw (le-leb (length s) packet_ceiling within, e, eq-eqb (length s) (length s) refl) agrees

  module _ (ho : Byte m.opening) (hc : Byte m.opcode) where
    body-says : eqb m.opening 0xE3 ≡ true → lookup table m.opcode ≡ some m.body.0 → {rule : ℕ} → BodyRule m.body rule → Says m answer rule
    body-says e l (keeps v) = whole-agrees (F.valid (record { opening = ho; opcode = hc; listed = rw e l; values = v }))
    body-says e l (breaks rule from size r) =
        whole-refuses (fault rule (head + from) size) (F.listed (rw e refl) m.body.0 (rw e l) ∙ rw (r s head F.inside F.body) refl)
    body-says e l (differs w other r) =
        whole-accepts (with_body m w) (λ q. other (ap (λ n. n.body) q)) (F.listed (rw e refl) m.body.0 (rw e l) ∙ rw (r s head F.inside F.body) refl)

    opcode-says : (o : Option messages.Shape) → lookup table m.opcode ≡ o → eqb m.opening 0xE3 ≡ true → unlike o m.body.0 ≡ false →
        {rule : ℕ} → BodyRule m.body rule → Says m answer (opcode_number o rule)
    opcode-says none l e own r = whole-refuses _ (F.unlisted (rw e refl) (rw e l))
    opcode-says (some shape) l e own r = body-says e (l ∙ ap some (same_shape shape m.body.0 own)) r

    frame-says : unlike (lookup table m.opcode) m.body.0 ≡ false → {rule : ℕ} → BodyRule m.body rule →
        Says m answer (pick (eqb m.opening 0xE3) (opcode_number (lookup table m.opcode) rule) 2)
    frame-says own {rule} r = go (eqb m.opening 0xE3) refl
      where
        go : (t : Bool) → eqb m.opening 0xE3 ≡ t → Says m answer (pick t (opcode_number (lookup table m.opcode) rule) 2)
        go true e = opcode-says (lookup table m.opcode) refl e own r
        go false e = whole-refuses _ (F.closed (rw e refl))

over-judged : (k : Kind) (m : Message k) → CountsFit k m → ceiling k < length (encode k m) → Judged k m 6
unfolding decode
over-judged k m fit long = refused_for fit (fault Rule.bytes_ceiling 0 (length (encode k m))) (rw (lt-leb (length (encode k m)) (ceiling k) long) refl)

-- The size of a message's bytes, after a head of known size, and the number for the message.
pub record Finished (k : Kind) (m : Message k) (head size n : ℕ) : Type 0 where
  pub all : length (encode k m) ≡ head + size
  pub over : packet_ceiling < head + size → Judged k m 6
  pub within : head + size ≤ packet_ceiling → Judged k m n

finish : (k : Kind) (m : Message k) (head size n : ℕ) → ceiling k ≡ packet_ceiling → CountsFit k m → length (encode k m) ≡ head + size →
    (length (encode k m) ≤ packet_ceiling → Says m (decode k (encode k m)) n) → Finished k m head size n
finish k m head size n c fit all says =
    record { all = all; over = λ long. over-judged k m fit (omega arith); within = λ short. judged k m fit refl (says (omega arith)) }

tcp-size : (m : messages.Packet) {size : ℕ} → size ≡ length (bytes_of m.body) → length (encode_tcp m) ≡ 6 + size
unfolding encode_body
tcp-size m e = length-tcp m ∙ simp (length-append, length-little_endian) (omega arith)

udp-size : (m : messages.Packet) {size : ℕ} → size ≡ length (bytes_of m.body) → length (encode_udp m) ≡ 2 + size
unfolding encode_udp encode_body
udp-size m e = simp (length-append, length-little_endian) (omega arith)

module _ (s : List ℕ) (p : Packet) (ho : Byte p.opening) (hc : Byte p.opcode) {size rule : ℕ} (fit : ValuesFit (body_in s p.body).0 (body_in s p.body).1)
    (sized : size ≡ length (bytes_of (body_in s p.body))) (r : BodyRule (body_in s p.body) rule) where
  abbrev m : messages.Packet
  m = packet_in s p

  pub finished : (link : Link) → spec_another_shape link s p ≡ false →
      Finished (kind_of link) (packet_of link s p) (spec_head_size link) size (spec_reader_number link p.opening p.opcode rule)
  unfolding decode
  finished Link.Server own =
      finish server_link m 6 size _ refl fit (tcp-size m sized) (λ few. frame-says server_opcodes (tcp-frame server m ho hc few) few ho hc own r)
  finished Link.Client own =
      finish client_link m 6 size _ refl fit (tcp-size m sized) (λ few. frame-says client_opcodes (tcp-frame client m ho hc few) few ho hc own r)
  finished Link.Udp own =
      finish udp_link m 2 size _ refl fit (udp-size m sized) (λ few. frame-says udp_opcodes (udp-frame udp m ho hc) few ho hc own r)
