-- Each answer of the writer is a write of the format, by what was found out about the body.
use mathlib.Core.Path.{◌≡◌, refl, sym, ap, subst, ◌∙◌}
use mathlib.Core.Bool.{true, false}
use mathlib.Core.List.{List, ◌++◌, append_assoc}
use Prim.Native.Nat.{ℕ, ◌+◌, ◌≤◌, ◌<◌}
use native.Mathlib.Omega.{arith}
use lib.ListN.{length, length-append}
use Rattle.format.specs.Messages as messages
use Rattle.format.specs.Messages.{Kind, Message}
use Rattle.format.specs.Layout.{byte, dword, encode, encode_body, encode_tcp, encode_udp}
use Rattle.format.specs.Rules.{Byte, Bytes, packet_ceiling}
use Rattle.format.specs.Decoding.{fault, kind}
use Rattle.format.specs.Writing.{CountsFit, Judged, ValuesFit, Written, overflows, unwritten}
use Rattle.format.proofs.Codec.{length-little_endian}
use Rattle.bodies.specs.BodyAnswers.{body_in}
use Rattle.packets.specs.declared.Link.{Link}
use Rattle.packets.specs.declared.Packet.{Packet}
use Rattle.packets.specs.PacketAnswers.{packet_in}
use Rattle.format.specs.RoundTrip.{IsThere}
use Rattle.std.specs.Prelude.{Result, Ok, Err, IsErrAnd}
use Rattle.wire.specs.WireAnswers.{fault_meaning}
use Rattle.wire.proofs.Steps.{propagated}
use Rattle.output.specs.declared.Refusal.{Refusal}
use Rattle.output.specs.WriteAnswers.{answered, number_of}
use Rattle.output.proofs.Refusals.{number-of-rule}
use Rattle.write_items.proofs.There.{there-at}
use Rattle.write_items.proofs.Answers as answers
use Rattle.write_items.proofs.Answers.{Promised, gone, message-ready}
use Rattle.check_bodies.specs.declared.BodyCheck.{BodyCheck}
use Rattle.check_bodies.specs.Bodies as findings
use Rattle.check_bodies.specs.Bodies.{BodyChecked, body_there, bytes_of}
use Rattle.write_packets.specs.Packets.{Ready, head_bytes, kind_of, packet_of, packet_there, spec_another_shape, spec_head_size, spec_reader_number}
use Rattle.write_packets.proofs.Encodings.{packet-bytes}
use Rattle.write_packets.proofs.Judging.{Finished, finished}

counts : (link : Link) (s : List ℕ) (p : Packet) → CountsFit (kind_of link) (packet_of link s p) → ValuesFit (body_in s p.body).0 (body_in s p.body).1
counts Link.Server s p h = h
counts Link.Client s p h = h
counts Link.Udp s p h = h

pub ready : (link : Link) (s : List ℕ) (p : Packet) → spec_another_shape link s p ≡ false → {r : BodyCheck} → BodyChecked s p.body (Ok r) → Ready link s p r
ready link s p own (findings.sized size end rule h fit e at r) = record { own = own; there = h; fit = fit; size = e; ends = at; rule = r }

tcp-bytes : (m : messages.Packet) (size : ℕ) → size ≡ length (bytes_of m.body) →
    encode_tcp m ≡ (byte m.opening ++ (dword (1 + size) ++ byte m.opcode)) ++ bytes_of m.body
unfolding encode_tcp encode_body
tcp-bytes m size e =
    let x = byte m.opening in
    let c = byte m.opcode in
    let v = bytes_of m.body in
    let n : length (c ++ v) ≡ 1 + size = length-append c v ∙ omega (arith, length-little_endian 1 m.opcode) in
    rw (n, append_assoc x (dword (1 + size) ++ c) v, append_assoc (dword (1 + size)) c v) refl

udp-bytes : (m : messages.Packet) → encode_udp m ≡ (byte m.opening ++ byte m.opcode) ++ bytes_of m.body
unfolding encode_udp encode_body
udp-bytes m = sym (append_assoc (byte m.opening) (byte m.opcode) (bytes_of m.body))

packet-encoding : (link : Link) (s : List ℕ) (p : Packet) (size : ℕ) → size ≡ length (bytes_of (body_in s p.body)) →
    encode (kind_of link) (packet_of link s p) ≡ head_bytes link p.opening p.opcode size ++ bytes_of (body_in s p.body)
packet-encoding Link.Server s p size e = tcp-bytes (packet_in s p) size e
packet-encoding Link.Client s p size e = tcp-bytes (packet_in s p) size e
packet-encoding Link.Udp s p size e = udp-bytes (packet_in s p)

pub head_small : (link : Link) → spec_head_size link ≤ 6
head_small Link.Server = omega arith
head_small Link.Client = omega arith
head_small Link.Udp = omega arith

pub head-length : (link : Link) (opening opcode size : ℕ) → length (head_bytes link opening opcode size) ≡ spec_head_size link
head-length Link.Server opening opcode size = simp (length-append, length-little_endian)
head-length Link.Client opening opcode size = simp (length-append, length-little_endian)
head-length Link.Udp opening opcode size = simp (length-append, length-little_endian)

module _ (link : Link) (s : List ℕ) (hb : Bytes s) (p : Packet) where
  -- Both promises of the writer.
  abbrev pub Owed : (output : List ℕ) → Written → Type 0
  Owed = Promised (kind_of link) (packet_there link s p) (packet_of link s p)

  judged-ready : {n : ℕ} {bytes : List ℕ} {size : ℕ} → spec_another_shape link s p ≡ false → IsThere (body_there s p.body) → Judged (kind_of link) (packet_of link s p) n →
      encode (kind_of link) (packet_of link s p) ≡ bytes → length bytes ≡ size → answers.Ready Owed n bytes size
  judged-ready own h judged encoded sized =
      let lies = there-at (body_there s p.body) h in
      message-ready {next = lies.0} (rw own (sym lies.1)) judged (sym encoded) (subst Bytes encoded (packet-bytes s hb link p)) sized

  pub other-shape : (output : List ℕ) → spec_another_shape link s p ≡ true → Owed output (unwritten 4 output)
  other-shape output e = gone output {f = fault kind 0 1} (rw e refl)

  unfit : (r : Refusal) (output : List ℕ) → spec_another_shape link s p ≡ false → BodyChecked s p.body (Err r) → Owed output (answered (Err r) output)
  unfit r output own (findings.absent f e) = rw (number-of-rule f.rule) (gone output {f = fault_meaning f} (rw own (sym e)))
  unfit r output own (findings.overflows h f) =
      (judged-ready own h (overflows (λ c. f (counts link s p c))) refl refl).refuses output (λ z. omega arith)

  -- `?` passes on what the check of the body refuses.
  pub passed-unfit : (r : Refusal) (answer : Result ℕ Refusal) (output : List ℕ) → IsErrAnd answer (λ g. g ≡ r) → spec_another_shape link s p ≡ false →
      BodyChecked s p.body (Err r) → Owed output (answered answer output)
  passed-unfit r answer output passed own found = rw (propagated answer passed) (unfit r output own found)

  module _ (ho : Byte p.opening) (hc : Byte p.opcode) {r : BodyCheck} (h : Ready link s p r) where
    abbrev number : ℕ
    number = spec_reader_number link p.opening p.opcode (number_of r.rule)

    done : Finished (kind_of link) (packet_of link s p) (spec_head_size link) r.size number
    done = finished s p ho hc h.fit h.size h.rule link h.own

    pub over-ceiling : (output : List ℕ) → packet_ceiling < spec_head_size link + r.size → Owed output (unwritten 6 output)
    over-ceiling output long = (judged-ready h.own h.there (done.over long) refl refl).refuses output (λ z. omega arith)

    pub packet-ready : spec_head_size link + r.size ≤ packet_ceiling →
        answers.Ready Owed number (head_bytes link p.opening p.opcode r.size ++ bytes_of (body_in s p.body)) (spec_head_size link + r.size)
    packet-ready short =
        let encoded = packet-encoding link s p r.size h.size in
        judged-ready h.own h.there (done.within short) encoded (ap length (sym encoded) ∙ done.all)
