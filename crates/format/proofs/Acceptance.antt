-- Demand 3, for each of 01's six kinds and for the lone query and the lone tag list.
use mathlib.Core.Path.{◌≡◌}
use mathlib.Core.Logic.{◌↔◌}
use mathlib.Core.List.{List}
use Prim.Native.Nat.{ℕ, ◌≤◌}
use native.Mathlib.Omega.{arith}
use lib.ListN.{length}
use Rattle.format.specs.Messages.{server, client, udp, Kind, server_link, client_link, udp_link, known_met, server_met, part_met, lone_query, lone_tags, Message}
use Rattle.format.specs.Layout.{encode, encode_body}
use Rattle.format.specs.Rules.{Bytes, Dword, ceiling, ValidContent, Valid}
use Rattle.format.specs.Decoding.{accepted, message, Answer, refusal, reply}
use Rattle.format.specs.MetOrder.{decoder, decode}
use Rattle.format.proofs.Codec.{at_end, Codec}
use Rattle.format.proofs.Whole as whole
use Rattle.format.proofs.Items.{codec-query, codec-tags}
use Rattle.format.proofs.Packets.{codec-tcp, codec-udp, length-tcp}
use Rattle.format.proofs.MetFiles.{codec-known, codec-servers}
use Rattle.format.proofs.PartMet.{codec-part}

-- what the codec law of a kind asks of a message: on TCP, also that its length fits the header
abbrev Encodable : (k : Kind) → Message k → Type 0
Encodable server_link m = ValidContent server_link m × Dword (length (encode_body m))
Encodable client_link m = ValidContent client_link m × Dword (length (encode_body m))
Encodable udp_link m = ValidContent udp_link m
Encodable known_met m = ValidContent known_met m
Encodable server_met m = ValidContent server_met m
Encodable part_met m = ValidContent part_met m
Encodable lone_query m = ValidContent lone_query m
Encodable lone_tags m = ValidContent lone_tags m

pub codec : (k : Kind) → Codec at_end (decoder k) (encode k) (Encodable k)
codec server_link = codec-tcp server
codec client_link = codec-tcp client
codec udp_link = codec-udp udp
codec known_met = codec-known
codec server_met = codec-servers
codec part_met = codec-part
codec lone_query = codec-query
codec lone_tags = codec-tags

-- the byte ceiling makes the length fit
encodable : (k : Kind) (m : Message k) → length (encode k m) ≤ ceiling k → ValidContent k m ↔ Encodable k m
encodable server_link m few = (λ h. (h, omega (arith, length-tcp m)), λ h. h.0)
encodable client_link m few = (λ h. (h, omega (arith, length-tcp m)), λ h. h.0)
encodable udp_link m few = (λ h. h, λ h. h)
encodable known_met m few = (λ h. h, λ h. h)
encodable server_met m few = (λ h. h, λ h. h)
encodable part_met m few = (λ h. h, λ h. h)
encodable lone_query m few = (λ h. h, λ h. h)
encodable lone_tags m few = (λ h. h, λ h. h)

-- the bytes are accepted as a message exactly when it is lawful and the layouts spell them from it
pub accepts : (k : Kind) (s : List ℕ) → Bytes s → (m : Message k) → (decode k s ≡ accepted m) ↔ ((s ≡ encode k m) × Valid k m)
unfolding decode
accepts k s hb m =
    let a = whole.accepts (codec k) (ceiling k) s hb m in (
      λ e. let b = a.0 e in (b.0, record { content = (encodable k m b.1.1).1 b.1.0; few = b.1.1 }),
      λ h. a.1 (h.0, ((encodable k m h.1.few).0 h.1.content, h.1.few)),
    )

-- no bytes are spelled by two lawful messages of one kind
pub unambiguous : (k : Kind) (m n : Message k) → Valid k m → Valid k n → encode k m ≡ encode k n → m ≡ n
unambiguous k m n hm hn e =
    whole.unambiguous (codec k) m n ((encodable k m hm.few).0 hm.content) ((encodable k n hn.few).0 hn.content) e

-- the same of what a caller gets
told : {A : Type 0} (a : Answer A) (m : A) → (reply a ≡ message m) ↔ (a ≡ accepted m)
told (refusal f) m = (λ e. cc, λ e. cc)
told (accepted b) m = (λ e. cc, λ e. cc)

pub accepts-reply : (k : Kind) (s : List ℕ) → Bytes s → (m : Message k) → (reply (decode k s) ≡ message m) ↔ ((s ≡ encode k m) × Valid k m)
accepts-reply k s hb m =
    let t = told (decode k s) m in
    let a = accepts k s hb m in
    (λ e. a.0 (t.0 e), λ h. t.1 (a.1 h))
