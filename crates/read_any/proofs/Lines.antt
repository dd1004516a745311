-- The line of an answer is that of the message, or of the refusal, that it stands for.
use Prim.Native.Nat.{ℕ}
use mathlib.Core.Path.{◌≡◌, refl, ap}
use mathlib.Core.Option.{none, some}
use mathlib.Core.List.{List}
use lib.ListN.{length}
use Rattle.format.specs.Messages as messages
use Rattle.format.specs.Messages.{known_met, server_met, part_met, server_link, client_link, udp_link}
use Rattle.format.specs.Decoding.{Reply, refused_with, message, reply, number}
use Rattle.format.specs.MetOrder.{decode}
use Rattle.met.specs.declared.PartMet.{PartMet}
use Rattle.read_any.specs.declared.Kind.{Kind}
use Rattle.read_any.specs.declared.Message.{Message}
use Rattle.read_any.specs.declared.Summary.{Summary}
use Rattle.read_any.specs.AnyAnswers.{kind_of, answer_in, packet_answer, known_answer, server_answer, part_answer, code_of, summary_for, summary_of}
use Rattle.std.specs.Prelude.{Result, Ok, Err}
use Rattle.wire.specs.declared.Rule.{Rule}
use Rattle.wire.specs.WireAnswers.{rule_meaning}
use Rattle.format.proofs.Differ.{differ}

abbrev pub line_of : ℕ → Result Message Rule → Summary
line_of n (Ok m) = record { number = 0; code = code_of m; length = n }
line_of n (Err rule) = record { number = number (rule_meaning rule); code = 0; length = 0 }

never : {A B : Type 0} {y : A} → none ≡ some y → B
never e = differ cc

-- a line of the reply that an answer stands for
told : {A : Type 0} (line : Reply A → Summary) {y z : Reply A} → some z ≡ some y → line y ≡ line z
told line {y} {z} e = ap line (cc)

module _ (s : List ℕ) (n : ℕ) where
  packet-line : (line : Reply messages.Packet → Summary) →
      ((m : messages.Packet) → line (message m) ≡ record { number = 0; code = m.opcode; length = n }) →
      ((k : ℕ) → line (refused_with k) ≡ record { number = k; code = 0; length = 0 }) →
      (a : Result Message Rule) (y : Reply messages.Packet) → packet_answer s a ≡ some y → line y ≡ line_of n a
  packet-line line f g (Ok (Message.Packet p)) y e = rw (told line e) (f _)
  packet-line line f g (Ok (Message.KnownMet m)) y e = never e
  packet-line line f g (Ok (Message.ServerMet m)) y e = never e
  packet-line line f g (Ok (Message.PartMet m k)) y e = never e
  packet-line line f g (Err rule) y e = rw (told line e) (g _)

  known-line : (a : Result Message Rule) (y : Reply messages.KnownMet) → known_answer s a ≡ some y → summary_for known_met n y ≡ line_of n a
  known-line (Ok (Message.Packet p)) y e = never e
  known-line (Ok (Message.KnownMet m)) y e = told (summary_for known_met n) e
  known-line (Ok (Message.ServerMet m)) y e = never e
  known-line (Ok (Message.PartMet m k)) y e = never e
  known-line (Err rule) y e = told (summary_for known_met n) e

  server-line : (a : Result Message Rule) (y : Reply messages.ServerMet) → server_answer s a ≡ some y → summary_for server_met n y ≡ line_of n a
  server-line (Ok (Message.Packet p)) y e = never e
  server-line (Ok (Message.KnownMet m)) y e = never e
  server-line (Ok (Message.ServerMet m)) y e = told (summary_for server_met n) e
  server-line (Ok (Message.PartMet m k)) y e = never e
  server-line (Err rule) y e = told (summary_for server_met n) e

  part-line : (a : Result Message Rule) (y : Reply messages.PartMet) → part_answer s a ≡ some y → summary_for part_met n y ≡ line_of n a
  part-line (Ok (Message.Packet p)) y e = never e
  part-line (Ok (Message.KnownMet m)) y e = never e
  part-line (Ok (Message.ServerMet m)) y e = never e
  part-line (Ok (Message.PartMet (PartMet.E0 m) k)) y e = told (summary_for part_met n) e
  part-line (Ok (Message.PartMet (PartMet.E1 m) k)) y e = told (summary_for part_met n) e
  part-line (Err rule) y e = told (summary_for part_met n) e

  kind-line : (kind : Kind) (a : Result Message Rule) (y : Reply (messages.Message (kind_of kind))) → answer_in (kind_of kind) s a ≡ some y →
      summary_for (kind_of kind) n y ≡ line_of n a
  kind-line Kind.ServerLink = packet-line (summary_for server_link n) (λ m. refl) (λ k. refl)
  kind-line Kind.ClientLink = packet-line (summary_for client_link n) (λ m. refl) (λ k. refl)
  kind-line Kind.UdpLink = packet-line (summary_for udp_link n) (λ m. refl) (λ k. refl)
  kind-line Kind.KnownMet = known-line
  kind-line Kind.ServerMet = server-line
  kind-line Kind.PartMet = part-line

pub line_is : (kind : Kind) (s : List ℕ) (a : Result Message Rule) → answer_in (kind_of kind) s a ≡ some (reply (decode (kind_of kind) s)) →
    summary_of (kind_of kind) s ≡ line_of (length s) a
unfolding summary_of
line_is kind s a e = kind-line s (length s) kind a (reply (decode (kind_of kind) s)) e
