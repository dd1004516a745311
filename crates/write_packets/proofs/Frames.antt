-- What the reader says of the finished bytes of a packet: of the frame, and through it of the body.
use mathlib.Core.Path.{◌≡◌, refl, sym, ap, ◌∙◌}
use mathlib.Core.Bool.{true, false}
use mathlib.Core.Option.{none, some}
use mathlib.Core.List.{List, [], ◌++◌, append-nil}
use Prim.Native.Nat.{ℕ, ◌+◌, ◌-◌, ◌≤◌}
use native.Mathlib.Omega.{arith}
use native.Mathlib.Nat.{zero-add}
use lib.ListN.{length, drop, length-drop}
use borrow.Author.Tests.{eq-eqb, ne_eqb}
use Rattle.format.specs.Tables.{keys, lookup, one_of, rows}
use Rattle.format.specs.Messages.{Link, Opcodes, Packet, Shape, Values}
use Rattle.format.specs.Layout.{dword, encode_body, encode_tcp, encode_udp, little_endian}
use Rattle.format.specs.Rules.{Byte, Dword, ValidPacket, packet_ceiling}
use Rattle.format.specs.Decoding.{Decoder, Rule, and_then, fault, got, pure, refused}
use Rattle.format.specs.Order.{decode_byte, decode_dword}
use Rattle.format.specs.PacketOrder.{decode_body, decode_length, decode_opcode, decode_opening, decode_tcp, decode_udp}
use Rattle.format.proofs.Codec.{anywhere, behind, codec-byte, codec-dword, fits, length-little_endian}
use Rattle.format.proofs.Packets.{codec-tcp, codec-udp, length-tcp}
use Rattle.check_bodies.specs.Bodies.{bytes_of}

-- A number of k bytes, and after it the rest of the bytes.
pub record Stands (k n : ℕ) (s : List ℕ) (at : ℕ) (rest : List ℕ) : Type 0 where
  pub here : drop at s ≡ little_endian k n ++ rest
  pub inside : at ≤ length s
  pub behind : drop (at + k) s ≡ rest
  pub next : at + k ≤ length s

stands : (k n : ℕ) (s : List ℕ) (at : ℕ) (rest : List ℕ) → drop at s ≡ little_endian k n ++ rest → at ≤ length s → Stands k n s at rest
stands k n s at rest e i =
    let size = length-little_endian k n in
    record {
      here = e;
      inside = i;
      behind = rw size at (behind s at (little_endian k n) rest e);
      next = rw size at (fits s at (little_endian k n) rest i e);
    }

module _ {n : ℕ} {s : List ℕ} {at : ℕ} {rest : List ℕ} where
  byte_step : Byte n → Stands 1 n s at rest → decode_byte s at ≡ got n (at + 1)
  byte_step small h = (codec-byte {p = anywhere}).complete s at n rest small h.here h.inside tt ∙ ap (λ k. got n (at + k)) (length-little_endian 1 n)

  dword-step : Dword n → Stands 4 n s at rest → decode_dword s at ≡ got n (at + 4)
  dword-step small h = (codec-dword {p = anywhere}).complete s at n rest small h.here h.inside tt ∙ ap (λ k. got n (at + k)) (length-little_endian 4 n)

  -- The opening byte.
  opening-listed : (openings : List ℕ) → Byte n → Stands 1 n s at rest → one_of openings n ≡ true → decode_opening openings s at ≡ got n (at + 1)
  unfolding decode_opening
  opening-listed openings small h e = rw (byte_step small h, e) refl

  opening-refused : (openings : List ℕ) → Byte n → Stands 1 n s at rest → one_of openings n ≡ false →
      decode_opening openings s at ≡ refused (fault Rule.opening at 1)
  unfolding decode_opening
  opening-refused openings small h e = rw (byte_step small h, e) refl

  -- The length of all that stands after it.
  length-passes : Dword n → Stands 4 n s at rest → length rest ≡ n → (n ≡ 0 → ⊥) → decode_length s at ≡ got n (at + 4)
  unfolding decode_length
  length-passes small h full more =
      let left : n ≡ length s - (at + 4) = omega (arith, h.next, length-drop (at + 4) s, ap length h.behind) in
      rw (dword-step small h, ne_eqb n 0 more, eq-eqb n (length s - (at + 4)) left) refl

  -- The opcode, and the shape after it.
  opcode-listed : (table : Opcodes) {shape : Shape} → Byte n → Stands 1 n s at rest → lookup table n ≡ some shape →
      decode_opcode table s at ≡ got (n, shape) (at + 1)
  unfolding decode_opcode
  opcode-listed table small h e = rw (byte_step small h, e) refl

  opcode-refused : (table : Opcodes) → Byte n → Stands 1 n s at rest → lookup table n ≡ none → decode_opcode table s at ≡ refused (fault Rule.kind at 1)
  unfolding decode_opcode
  opcode-refused table small h e = rw (byte_step small h, e) refl

-- The same opening byte and opcode before another body.
abbrev pub with_body : Packet → (shape : Shape) × Values shape → Packet
with_body m body = record { opening = m.opening; opcode = m.opcode; body = body }

-- The bytes s of a packet m, whose body stands at `head`, and what a link's decoder says of them.
pub record Frame (link : Link) (decoder : Decoder Packet) (m : Packet) (s : List ℕ) (head : ℕ) : Type 0 where
  pub inside : head ≤ length s
  pub body : drop head s ≡ bytes_of m.body
  pub closed : one_of (keys link) m.opening ≡ false → decoder s 0 ≡ refused (fault Rule.opening 0 1)
  pub unlisted : one_of (keys link) m.opening ≡ true → lookup (rows link m.opening) m.opcode ≡ none →
      decoder s 0 ≡ refused (fault Rule.kind (head - 1) 1)
  pub listed : one_of (keys link) m.opening ≡ true → (shape : Shape) → lookup (rows link m.opening) m.opcode ≡ some shape →
      decoder s 0 ≡ and_then s (decode_body shape s head) (λ body. pure (with_body m body))
  pub valid : ValidPacket link m → decoder s 0 ≡ got m (length s)

module _ (link : Link) (m : Packet) (ho : Byte m.opening) (hc : Byte m.opcode) where
  body-stands : (s : List ℕ) (at : ℕ) → drop at s ≡ encode_body m → at ≤ length s → Stands 1 m.opcode s at (bytes_of m.body)
  unfolding encode_body
  body-stands s at e i = stands 1 m.opcode s at (bytes_of m.body) e i

  pub udp-frame : Frame link (decode_udp link) m (encode_udp m) 2
  unfolding encode_udp decode_udp
  udp-frame =
      let s = encode_udp m in
      let a = stands 1 m.opening s 0 (encode_body m) refl (omega arith) in
      let b = body-stands s 1 a.behind a.next in
      record {
        inside = b.next;
        body = b.behind;
        closed = λ e. rw (opening-refused (keys link) ho a e) refl;
        unlisted = λ e l. rw (opening-listed (keys link) ho a e, opcode-refused (rows link m.opening) hc b l) refl;
        listed = λ e shape l. rw (opening-listed (keys link) ho a e, opcode-listed (rows link m.opening) hc b l) refl;
        valid = λ h. rw zero-add at ((codec-udp link).complete s 0 m [] h (sym (append-nil s)) (omega arith) refl);
      }

  pub tcp-frame : length (encode_tcp m) ≤ packet_ceiling → Frame link (decode_tcp link) m (encode_tcp m) 6
  unfolding encode_tcp decode_tcp
  tcp-frame within =
      let s = encode_tcp m in
      let n = length (encode_body m) in
      let small : Dword n = omega (arith, length-tcp m) in
      let a = stands 1 m.opening s 0 (dword n ++ encode_body m) refl (omega arith) in
      let l = stands 4 n s 1 (encode_body m) a.behind a.next in
      let b = body-stands s 5 l.behind l.next in
      let more : n ≡ 0 → ⊥ = λ z. omega (arith, b.next, length-tcp m) in
      let framed : decode_length s 1 ≡ got n 5 = length-passes small l refl more in
      record {
        inside = b.next;
        body = b.behind;
        closed = λ e. rw (opening-refused (keys link) ho a e) refl;
        unlisted = λ e k. rw (opening-listed (keys link) ho a e, framed, opcode-refused (rows link m.opening) hc b k) refl;
        listed = λ e shape k. rw (opening-listed (keys link) ho a e, framed, opcode-listed (rows link m.opening) hc b k) refl;
        valid = λ h. rw zero-add at ((codec-tcp link).complete s 0 m [] (h, small) (sym (append-nil s)) (omega arith) refl);
      }
