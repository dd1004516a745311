-- The laws of Replies for a reader of a link's packets, and what its reason owes: each holds on every link.
use Prim.Native.Nat.{ℕ, ◌≤◌, ◌<◌}
use mathlib.Core.Path.{◌≡◌, refl, ◌∙◌}
use mathlib.Core.Option.{Option, none, some}
use mathlib.Core.Logic.{◌↔◌}
use mathlib.Core.List.{List}
use lib.ListN.{get_or, length}
use borrow.Author.Tests.{eq-eqb, le-leb, lt-leb, ne_eqb}
use mir.Syntax.{w8}
use mir.Val.{Fits}
use Rattle.format.specs.Messages.{Packet, server_link, client_link, udp_link}
use Rattle.format.specs.Rules.{packet_ceiling}
use Rattle.format.specs.Decoding.{Fault, Reply, Rule, bytes_ceiling, decode_whole, fault, got, message, number, refused, refused_with}
use Rattle.format.specs.MetOrder.{decode}
use Rattle.format.specs.Reasons.{Explains, fault_of, reason_of}
use Rattle.format.proofs.Reasons.{explains}
use Rattle.wire.proofs.Replies as replies
use Rattle.packets.specs.declared.Link.{Link}
use Rattle.packets.specs.PacketAnswers.{decode_link, link_kind, link_reply, LinkAccepts}

link-reason : (link : Link) (s : List ℕ) → fault_of (decode_whole packet_ceiling (decode_link link) s) ≡ reason_of (link_kind link) s
unfolding reason_of decode
link-reason Link.Server s = refl
link-reason Link.Client s = refl
link-reason Link.Udp s = refl

because : (link : Link) (s : List ℕ) {o : Option Fault} → o ≡ fault_of (decode_whole packet_ceiling (decode_link link) s) → Explains (link_kind link) s o
because link s e = explains (link_kind link) s (e ∙ link-reason link s)

-- the three clauses of the reader, for a reply and for the reason beside it
abbrev LinkExact : Link → List ℕ → Reply Packet → Type 0 → Type 0
LinkExact link s r Placed = (r ≡ link_reply link s) × (Placed × ((m : Packet) → (r ≡ message m) ↔ LinkAccepts link s m))

abbrev pub LinkStep : Link → List ℕ → Reply Packet → Type 0 → Option Fault → Type 0
LinkStep link s r Placed o = (r ≡ link_reply link s) × (Placed × (((m : Packet) → (r ≡ message m) ↔ LinkAccepts link s m) × Explains (link_kind link) s o))

with-reason : (link : Link) (s : List ℕ) {r : Reply Packet} {Placed : Type 0} {o : Option Fault} → LinkExact link s r Placed → Explains (link_kind link) s o → LinkStep link s r Placed o
with-reason link s e x = (e.0, (e.1.0, (e.1.1, x)))

-- `known` is what the checker knows of the elements of a slice of u8
module _ (s : List ℕ) (known : (i : ℕ) → Fits w8 (get_or s i 0)) where
  many-exact : (link : Link) → packet_ceiling < length s → LinkExact link s (refused_with (number bytes_ceiling)) (Unit {0})
  many-exact Link.Server many = replies.over-ceiling server_link s known many
  many-exact Link.Client many = replies.over-ceiling client_link s known many
  many-exact Link.Udp many = replies.over-ceiling udp_link s known many

  pub over-ceiling : (link : Link) → packet_ceiling < length s → LinkStep link s (refused_with (number bytes_ceiling)) (Unit {0}) (some (fault bytes_ceiling 0 (length s)))
  over-ceiling link many = with-reason link s (many-exact link many) (because link s (rw (lt-leb (length s) packet_ceiling many) refl))

  module _ (fits : length s ≤ packet_ceiling) where
    faulty-exact : (link : Link) {f : Fault} → refused f ≡ decode_link link s 0 → LinkExact link s (refused_with (number f.rule)) (Unit {0})
    faulty-exact Link.Server read = replies.faulty server_link s known fits read
    faulty-exact Link.Client read = replies.faulty client_link s known fits read
    faulty-exact Link.Udp read = replies.faulty udp_link s known fits read

    pub faulty : (link : Link) {f : Fault} → refused f ≡ decode_link link s 0 → LinkStep link s (refused_with (number f.rule)) (Unit {0}) (some f)
    faulty link read = with-reason link s (faulty-exact link read) (because link s (rw (le-leb (length s) packet_ceiling fits, ← read) refl))

    module _ {m : Packet} {next : ℕ} where
      whole-exact : (link : Link) {Placed : Type 0} → got m next ≡ decode_link link s 0 → next ≡ length s → Placed → LinkExact link s (message m) Placed
      whole-exact Link.Server read all placed = replies.whole server_link s known fits read all placed
      whole-exact Link.Client read all placed = replies.whole client_link s known fits read all placed
      whole-exact Link.Udp read all placed = replies.whole udp_link s known fits read all placed

      pub whole : (link : Link) {Placed : Type 0} → got m next ≡ decode_link link s 0 → next ≡ length s → Placed → LinkStep link s (message m) Placed none
      whole link read all placed =
          with-reason link s (whole-exact link read all placed) (because link s (rw (le-leb (length s) packet_ceiling fits, ← read, eq-eqb next (length s) all) refl))

      left-exact : (link : Link) → got m next ≡ decode_link link s 0 → (next ≡ length s → ⊥) → LinkExact link s (refused_with (number Rule.rest)) (Unit {0})
      left-exact Link.Server read more = replies.bytes_left server_link s known fits read more
      left-exact Link.Client read more = replies.bytes_left client_link s known fits read more
      left-exact Link.Udp read more = replies.bytes_left udp_link s known fits read more

      pub bytes_left : (link : Link) → got m next ≡ decode_link link s 0 → (next ≡ length s → ⊥) →
          LinkStep link s (refused_with (number Rule.rest)) (Unit {0}) (some (fault Rule.rest next 1))
      bytes_left link read more =
          with-reason link s (left-exact link read more) (because link s (rw (le-leb (length s) packet_ceiling fits, ← read, ne_eqb next (length s) more) refl))
