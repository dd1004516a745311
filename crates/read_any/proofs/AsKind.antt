-- The answer of the reader of one kind, as the answer of the one reading call.
use Rattle.std.proofs.Common.{ℕ, ◌≡◌, ◌↔◌, ◌∙◌, refl, ap, List, Fits, w8, get_or}
use Rattle.std.specs.Prelude.{Result, Ok, Err, MatchResult}
use Rattle.std.specs.Result.{IsOkAnd}
use Rattle.std.proofs.Math.Option.{Option, some}
use Rattle.format.specs.Messages.{Kind}
use Rattle.format.specs.Messages as messages
use Rattle.format.specs.Layout.{encode}
use Rattle.format.specs.Rules.{Valid}
use Rattle.format.specs.Decoding.{Reply, message, reply}
use Rattle.format.specs.MetOrder.{decode}
use Rattle.wire.proofs.Replies.{exact}
use Rattle.packets.specs.declared.Packet.{Packet}
use Rattle.packets.specs.PacketAnswers.{packet_reply}
use Rattle.met.specs.declared.KnownMet.{KnownMet}
use Rattle.met.specs.declared.ServerMet.{ServerMet}
use Rattle.met.specs.declared.PartMet.{PartMet}
use Rattle.met.specs.MetAnswers.{known_reply, server_reply, part_reply}
use Rattle.read_any.specs.declared.Message.{Message}
use Rattle.read_any.specs.AnyAnswers.{packet_answer, known_answer, server_answer, part_answer}
use Rattle.wire.specs.declared.Rule.{Rule}

-- an answer that is the format's is a message exactly when that is valid and the bytes are its encoding
pub demand3_of : (k : Kind) (s : List ℕ) → ((i : ℕ) → Fits w8 (get_or s i 0)) → {x : Option (Reply (messages.Message k))} → x ≡ some (reply (decode k s)) →
    (m : messages.Message k) → (x ≡ some (message m)) ↔ ((s ≡ encode k m) × Valid k m)
demand3_of k s known p m =
    let law = exact k s known refl m in
    (λ q. law.0 (cc), λ v. p ∙ ap some (law.1 v))

-- what `map` ensures, of a result of P
abbrev Mapped : {A : Type 0} → (A → Message → Type 0) → Result A Rule → Result Message Rule → Type 0
Mapped P a r = MatchResult a (λ x. IsOkAnd r (P x)) (λ e. r ≡ Err e)

module _ (s : List ℕ) where
  pub packet_is : (a : Result Packet Rule) (r : Result Message Rule) → Mapped (λ p m. m ≡ Message.Packet p) a r → packet_answer s r ≡ some (packet_reply s a)
  packet_is (Ok p) (Ok m) h = rw h refl
  packet_is (Ok p) (Err e) h = absurd h
  packet_is (Err e) r h = rw h refl

  pub known_is : (a : Result KnownMet Rule) (r : Result Message Rule) → Mapped (λ k m. m ≡ Message.KnownMet k) a r → known_answer s r ≡ some (known_reply s a)
  known_is (Ok k) (Ok m) h = rw h refl
  known_is (Ok k) (Err e) h = absurd h
  known_is (Err e) r h = rw h refl

  pub server_is : (a : Result ServerMet Rule) (r : Result Message Rule) → Mapped (λ v m. m ≡ Message.ServerMet v) a r → server_answer s r ≡ some (server_reply s a)
  server_is (Ok v) (Ok m) h = rw h refl
  server_is (Ok v) (Err e) h = absurd h
  server_is (Err e) r h = rw h refl

  pub part_is : (P : PartMet × ℕ → Message → Type 0) → ((p : PartMet) (n : ℕ) (m : Message) → P (p, n) m → m ≡ Message.PartMet p n) →
      (a : Result (PartMet × ℕ) Rule) (r : Result Message Rule) → Mapped P a r → part_answer s r ≡ some (part_reply s a)
  part_is P is (Ok (p, n)) (Ok m) h = rw (is p n m h) refl
  part_is P is (Ok (p, n)) (Err e) h = absurd h
  part_is P is (Err e) r h = rw h refl
