-- The head of a packet: what an opening byte, a frame and an opcode that were read say of the whole packet.
use Prim.Native.Nat.{ℕ}
use mathlib.Core.Path.{◌≡◌, refl}
use mathlib.Core.List.{List, [], ◌∷◌}
use Rattle.format.specs.Messages.{Opcodes}
use Rattle.format.specs.Decoding.{Fault, ◌>>=◌, pure, got, refused}
use Rattle.format.specs.PacketOrder.{decode_body, decode_opcode, decode_opening, decode_tcp, decode_udp}
use Rattle.format.proofs.Differ.{differ}
use Rattle.wire.proofs.Loops.{ended-got, ended-refused}
use Rattle.packets.specs.declared.Link.{Link}
use Rattle.packets.specs.PacketAnswers.{decode_frame, decode_link, head_meaning, opcodes_of, packet_after}
use Rattle.std.specs.Prelude.{Ok, Err}
use Rattle.wire.specs.WireAnswers.{Step}
use Rattle.bodies.specs.declared.Shape.{Shape}

after-opcode : (table : Opcodes) (s : List ℕ) (at : ℕ) (r : Step (ℕ × Shape)) → head_meaning r ≡ decode_opcode table s at →
    packet_after s r ≡ (decode_opcode table >>= (λ head. decode_body head.1 >>= (λ body. pure (record { opening = 0xE3; opcode = head.0; body = body })))) s at
after-opcode table s at (Ok ((n, shape), c)) e = rw (← e) refl
after-opcode table s at (Err f) e = rw (← e) refl

module _ (s : List ℕ) where
  pub no-opening : (link : Link) {f : Fault} → refused f ≡ decode_opening (0xE3 ∷ []) s 0 → refused f ≡ decode_link link s 0
  unfolding decode_tcp decode_udp
  no-opening Link.Server o = rw (← o) refl
  no-opening Link.Client o = rw (← o) refl
  no-opening Link.Udp o = rw (← o) refl

  module _ {at : ℕ} (opened : got 0xE3 at ≡ decode_opening (0xE3 ∷ []) s 0) where
    pub no-frame : (link : Link) {f : Fault} → refused f ≡ decode_frame link s at → refused f ≡ decode_link link s 0
    unfolding decode_tcp decode_udp
    no-frame Link.Server e = rw (← opened, ← (ended-refused _ e)) refl
    no-frame Link.Client e = rw (← opened, ← (ended-refused _ e)) refl
    no-frame Link.Udp e = differ cc

    pub after_frame : (link : Link) {next : ℕ} (r : Step (ℕ × Shape)) → got tt next ≡ decode_frame link s at →
        head_meaning r ≡ decode_opcode (opcodes_of link) s next → packet_after s r ≡ decode_link link s 0
    unfolding decode_tcp decode_udp
    after_frame Link.Server r e h = rw (← opened, ← (ended-got _ e).1) (after-opcode _ s _ r h)
    after_frame Link.Client r e h = rw (← opened, ← (ended-got _ e).1) (after-opcode _ s _ r h)
    after_frame Link.Udp {next} r e h = let n : at ≡ next = cc in rw (← opened, n) (after-opcode _ s _ r h)
