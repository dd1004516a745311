-- What `ed2k_read` returned as numbers, and `ed2k_write` is given by these numbers, is written back as its bytes, whatever its kind: from
-- the contracts of the two calls, and no other fact.
use Prim.Native.Nat.{ℕ, ◌≤◌}
use native.Mathlib.Omega.{arith}
use mathlib.Core.Path.{◌≡◌, refl, sym, ap, subst, ◌∙◌}
use mathlib.Core.Bool.{Bool, true, false}
use mathlib.Core.Logic.{◌↔◌}
use mathlib.Core.Option.{Option, none, some}
use mathlib.Core.List.{List}
use lib.ListN.{length, take, drop}
use lib.Dec.{leb}
use Rattle.format.specs.Tables.{lookup, pick}
use Rattle.format.specs.Messages as messages
use Rattle.format.specs.Messages.{client, client_link, known_met, lone_query, lone_tags, part_met, server, server_link, server_met, udp, udp_link}
use Rattle.format.specs.Layout.{encode}
use Rattle.format.specs.Rules.{Bytes, Valid}
use Rattle.format.specs.Decoding as decoding
use Rattle.format.specs.Decoding.{Outcome, Reply, ends, message, refused_with, reply}
use Rattle.format.specs.Order.{decode_query, decode_tag}
use Rattle.format.specs.MetOrder.{decode}
use Rattle.format.specs.Writing.{Written, overwritten}
use Rattle.format.specs.RoundTrip.{IsThere}
use Rattle.format.proofs.Differ.{differ}
use Rattle.format.proofs.Acceptance.{accepts-reply}
use Rattle.format.proofs.Writing.{number-some}
use Rattle.tags.specs.TagAnswers.{TagListPlaced, tag_list_reply}
use Rattle.query.specs.QueryAnswers.{QueryAnswerPlaced, query_reply}
use Rattle.bodies.specs.BodyAnswers.{BodyPlaced}
use Rattle.packets.specs.declared.Link.{Link}
use Rattle.packets.specs.declared.Packet.{Packet}
use Rattle.packets.specs.PacketAnswers.{LinkAccepts, link_reply, packet_in, packet_reply}
use Rattle.met.specs.declared.PartMet.{PartMet}
use Rattle.met.specs.MetAnswers.{known_met_in, known_reply, part_met_in, part_reply, server_met_in, server_reply}
use Rattle.read_any.specs.declared.Message.{Message}
use Rattle.read_any.specs.AnyAnswers.{AnswerPlaced, known_answer, packet_answer, part_answer, server_answer}
use Rattle.write_items.specs.There.{items_there}
use Rattle.write_items.proofs.Back.{items-here, query-here, written_back}
use Rattle.write_packets.specs.Packets.{packet_there}
use Rattle.write_packets.proofs.PacketReadBack.{packet-here}
use Rattle.write_met.specs.MetWrites.{known_there, server_there}
use Rattle.write_met.proofs.MetReadBack.{known-here, server-here}
use Rattle.write_part.specs.PartWrites.{part_there}
use Rattle.write_part.proofs.PartReadBack.{part-here}
use Rattle.fields.specs.Fields.{filled, items_numbers, known_numbers, spec_packet_numbers, part_numbers, query_numbers, server_numbers}
use Rattle.fields.specs.Given.{PacketFits, spec_items_at, spec_known_given, spec_packet_given, spec_part_given, spec_query_at, spec_server_given, spec_size_given}
use Rattle.fields.proofs.Given as given
use Rattle.fields.proofs.Given.{Found}
use Rattle.fields.proofs.Fits.{known-fits, list-fits, packet-fits, part-fits, server-fits, size_fits}
use Rattle.ed2k.specs.Calls.{GivenWrites, KindRead, KindWrites, Numbered, PacketWrites, KnownWrites, ServerWrites, PartWrites, QueryWrites, TagListWrites}
use Rattle.ed2k.specs.Calls.{rule_number, QueryWritten, ReadOf, TagListWritten, WriteOf, WritesBack, fields_out, kinds, message as meant, message_read, no_message, numbered, query_read, tag_list_read}
use Rattle.std.specs.Prelude.{Result, Ok, Err}
use Rattle.wire.specs.declared.Rule.{Rule}
use Rattle.wire.specs.declared.Items.{Items}
use Rattle.wire.specs.WireAnswers.{items_in}
use Rattle.query.specs.QueryAnswers.{query_in}
use Rattle.query.specs.declared.Query.{Query}

-- The numbers lie at the front of what was lent.
handed : (numbers old : List ℕ) (r : Numbered) → r ≡ fields_out numbers old → r.number ≡ 0 → r.numbers ≡ overwritten (filled 16 numbers) old
handed numbers old r e z = go (leb (length (filled 16 numbers)) (length old)) e
  where
    go : (t : Bool) → r ≡ pick t (numbered 0 (overwritten (filled 16 numbers) old)) (numbered 10 old) → r.numbers ≡ overwritten (filled 16 numbers) old
    go true e = ap (λ r. r.numbers) e
    go false e = let ten : r.number ≡ 10 = ap (λ r. r.number) e in absurd (omega (arith, ten, z))

-- Numbers of a message are taken for it.
heard : {numbers given output : List ℕ} {Writes : Written → Type 0} {w : Written} → filled 16 numbers ≡ take 16 given → GivenWrites numbers given output Writes w → Writes w
heard e (no_message f) = absurd (f e)
heard e (meant _ h) = h

-- No refusal has the number 0.
pub refused-some : {A : Type 0} (a : decoding.Answer A) {n : ℕ} → refused_with n ≡ reply a → n ≡ 0 → ⊥
refused-some (decoding.refusal f) e z = number-some f.rule cc
refused-some (decoding.accepted m) e z = differ cc

module _ (s : List ℕ) (bytes : Bytes s) where
  -- Demand 3, of what a reader told.
  exact : (k : messages.Kind) {told : Reply (messages.Message k)} → told ≡ reply (decode k s) →
      (m : messages.Message k) → (told ≡ message m) ↔ ((s ≡ encode k m) × Valid k m)
  exact k e m = rw e (accepts-reply k s bytes m)

  link-exact : (link : Link) {told : Reply messages.Packet} → told ≡ link_reply link s → (m : messages.Packet) → (told ≡ message m) ↔ LinkAccepts link s m
  link-exact Link.Server e m = exact server_link e m
  link-exact Link.Client e m = exact client_link e m
  link-exact Link.Udp e m = exact udp_link e m

  link-refused : (link : Link) {n : ℕ} → refused_with n ≡ link_reply link s → n ≡ 0 → ⊥
  link-refused Link.Server e z = refused-some (decode server_link s) e z
  link-refused Link.Client e z = refused-some (decode client_link s) e z
  link-refused Link.Udp e z = refused-some (decode udp_link s) e z

  fits : (link : Link) (p : Packet) → LinkAccepts link s (packet_in s p) → BodyPlaced s p.body → PacketFits p
  fits Link.Server p h placed = packet-fits s server p placed h.1.content
  fits Link.Client p h placed = packet-fits s client p placed h.1.content
  fits Link.Udp p h placed = packet-fits s udp p placed h.1.content

  module _ (old output : List ℕ) (r : Numbered) (w : Written) (ok : r.number ≡ 0) (room : length s ≤ length output) where
    abbrev Back : Type 0
    Back = w ≡ record { number = 0; length = length s; output = overwritten s output }

    -- The numbers that were returned for a message are taken for it.
    taken : {M : Type 0} (find : List ℕ → M) (numbers : M → List ℕ) (Writes : M → Written → Type 0) (m : M) → ((rest : List ℕ) → Found find (filled 16 (numbers m)) rest m) →
        r ≡ fields_out (numbers m) old → GivenWrites (numbers (find r.numbers)) r.numbers output (Writes (find r.numbers)) w → Writes m w
    taken find numbers Writes m back e write =
        let found = back (drop (length (filled 16 (numbers m))) old) in
        let lies = handed (numbers m) old r e ok in
        let same : find r.numbers ≡ m = ap find lies ∙ found.again in
        let first : filled 16 (numbers m) ≡ take 16 r.numbers = found.first ∙ sym (ap (take 16) lies) in
        let meant : GivenWrites (numbers m) r.numbers output (Writes m) w = subst (λ x. GivenWrites (numbers x) r.numbers output (Writes x) w) same write in
        heard first meant

    refusal : {A : Type 0} (a : decoding.Answer A) {n : ℕ} → refused_with n ≡ reply a → r ≡ numbered n old → Back
    refusal a told e = absurd (refused-some a told (sym (ap (λ r. r.number) e) ∙ ok))

    -- A message that is there, and is what the bytes say.
    message-back : (k : messages.Kind) {M : Type 0} (find : List ℕ → M) (numbers : M → List ℕ) (there : M → Outcome (Unit {0})) (values : M → messages.Message k) (m : M) →
        IsThere (there m) → (s ≡ encode k (values m)) × Valid k (values m) → ((rest : List ℕ) → Found find (filled 16 (numbers m)) rest m) → r ≡ fields_out (numbers m) old →
        (let g = find r.numbers in GivenWrites (numbers g) r.numbers output (WritesBack k (there g) (values g) output) w) → Back
    message-back k find numbers there values m here read back e write =
        let h = taken find numbers (λ x. WritesBack k (there x) (values x) output) m back e write in
        written_back k (there m) (values m) s output here read room h.0 h.1

    -- Packets
    packet : (link : Link) (p : Packet) → LinkAccepts link s (packet_in s p) → IsThere (packet_there link s p) → PacketFits p →
        r ≡ fields_out (spec_packet_numbers p) old → PacketWrites link s r.numbers output w → Back
    packet Link.Server p read here h e write =
        message-back server_link spec_packet_given spec_packet_numbers (packet_there Link.Server s) (packet_in s) p here read (λ rest. given.packet-back rest p h) e write
    packet Link.Client p read here h e write =
        message-back client_link spec_packet_given spec_packet_numbers (packet_there Link.Client s) (packet_in s) p here read (λ rest. given.packet-back rest p h) e write
    packet Link.Udp p read here h e write =
        message-back udp_link spec_packet_given spec_packet_numbers (packet_there Link.Udp s) (packet_in s) p here read (λ rest. given.packet-back rest p h) e write

    link-answer : (link : Link) (a : Result Message Rule) → packet_answer s a ≡ some (link_reply link s) → AnswerPlaced s a → r ≡ message_read a old →
        PacketWrites link s r.numbers output w → Back
    link-answer link (Ok (Message.Packet p)) m h e write =
        let meaning : packet_reply s (Ok p) ≡ link_reply link s = cc in
        let law = link-exact link meaning in
        let read = (law (packet_in s p)).0 refl in
        packet link p read (packet-here s link (Ok p) meaning h law p refl) (fits link p read h) e write
    link-answer link (Ok (Message.KnownMet f)) m h e write = differ cc
    link-answer link (Ok (Message.ServerMet f)) m h e write = differ cc
    link-answer link (Ok (Message.PartMet f n)) m h e write = differ cc
    link-answer link (Err n) m h e write =
        let told : refused_with (rule_number n) ≡ link_reply link s = cc in
        absurd (link-refused link told (sym (ap (λ r. r.number) e) ∙ ok))

    -- Met files
    known-answer : (a : Result Message Rule) → known_answer s a ≡ some (reply (decode known_met s)) → AnswerPlaced s a → r ≡ message_read a old →
        KnownWrites s r.numbers output w → Back
    known-answer (Ok (Message.Packet p)) m h e write = differ cc
    known-answer (Ok (Message.KnownMet f)) m h e write =
        let meaning : known_reply s (Ok f) ≡ reply (decode known_met s) = cc in
        let law = exact known_met meaning in
        let read = (law (known_met_in s f)).0 refl in
        let here = known-here s (Ok f) meaning h law f refl in
        let few = known-fits s f h read.1.content in
        message-back known_met spec_known_given known_numbers (known_there s) (known_met_in s) f here read (λ rest. given.known-back rest f few) e write
    known-answer (Ok (Message.ServerMet f)) m h e write = differ cc
    known-answer (Ok (Message.PartMet f n)) m h e write = differ cc
    known-answer (Err n) m h e write =
        let told : refused_with (rule_number n) ≡ reply (decode known_met s) = cc in
        refusal (decode known_met s) told e

    server-answer : (a : Result Message Rule) → server_answer s a ≡ some (reply (decode server_met s)) → AnswerPlaced s a → r ≡ message_read a old →
        ServerWrites s r.numbers output w → Back
    server-answer (Ok (Message.Packet p)) m h e write = differ cc
    server-answer (Ok (Message.KnownMet f)) m h e write = differ cc
    server-answer (Ok (Message.ServerMet f)) m h e write =
        let meaning : server_reply s (Ok f) ≡ reply (decode server_met s) = cc in
        let law = exact server_met meaning in
        let read = (law (server_met_in s f)).0 refl in
        let here = server-here s (Ok f) meaning h law f refl in
        let few = server-fits s f h read.1.content in
        message-back server_met spec_server_given server_numbers (server_there s) (server_met_in s) f here read (λ rest. given.server-back rest f few) e write
    server-answer (Ok (Message.PartMet f n)) m h e write = differ cc
    server-answer (Err n) m h e write =
        let told : refused_with (rule_number n) ≡ reply (decode server_met s) = cc in
        refusal (decode server_met s) told e

    -- A part.met is found again with its size.
    part-answer : (a : Result Message Rule) → part_answer s a ≡ some (reply (decode part_met s)) → AnswerPlaced s a → r ≡ message_read a old →
        PartWrites s r.numbers output w → Back
    part-answer (Ok (Message.Packet p)) m h e write = differ cc
    part-answer (Ok (Message.KnownMet f)) m h e write = differ cc
    part-answer (Ok (Message.ServerMet f)) m h e write = differ cc
    part-answer (Ok (Message.PartMet f n)) m h e write =
        let meaning : part_reply s (Ok (f, n)) ≡ reply (decode part_met s) = cc in
        let law = exact part_met meaning in
        let read = (law (part_met_in s f)).0 refl in
        let here = part-here s (Ok (f, n)) meaning h.0 h.1 law f n refl in
        let few = part-fits s f h.0 read.1.content in
        let small = size_fits s f n h.1 read.1.content in
        message-back part_met {M = PartMet × ℕ} (λ f. (spec_part_given f, spec_size_given f)) (λ x. part_numbers x.0 x.1) (λ x. part_there s x.0) (λ x. part_met_in s x.0) (f, n) here read
        (λ rest. given.part-back rest n small f few) e write
    part-answer (Err n) m h e write =
        let told : refused_with (rule_number n) ≡ reply (decode part_met s) = cc in
        refusal (decode part_met s) told e

    -- The lone query and the lone tag list
    query-answer : (a : Result Query Rule) → query_reply s a ≡ reply (decode lone_query s) → QueryAnswerPlaced s a → r ≡ query_read a old →
        QueryWrites s r.numbers output w → Back
    query-answer (Ok q) meaning placed e write =
        let h = taken (λ f. spec_query_at f 0) query_numbers (λ x. QueryWritten s x output) q (λ rest. given.query-back rest q) e write in
        written_back lone_query (ends (decode_query s q.at)) (query_in s q) s output (query-here s q placed) ((exact lone_query meaning (query_in s q)).0 refl) room h.0 h.1
    query-answer (Err n) meaning placed e write = refusal (decode lone_query s) meaning e

    tags-answer : (a : Result Items Rule) → tag_list_reply s a ≡ reply (decode lone_tags s) → TagListPlaced s a → r ≡ tag_list_read a old →
        TagListWrites s r.numbers output w → Back
    tags-answer (Ok l) meaning placed e write =
        let law = exact lone_tags meaning in
        let few = list-fits s l placed ((law _).0 refl).1.content in
        let h = taken (λ f. spec_items_at f 0) items_numbers (λ x. TagListWritten s x output) l (λ rest. given.list_back rest l few) e write in
        written_back lone_tags (items_there decode_tag s l) (items_in decode_tag s l) s output (items-here s decode_tag l placed) ((law _).0 refl) room h.0 h.1
    tags-answer (Err n) meaning placed e write = refusal (decode lone_tags s) meaning e

    pub kind-back : (k : messages.Kind) → KindRead k s old r → KindWrites k s r.numbers output w → Back
    kind-back server_link read write = link-answer Link.Server read.0 read.1 read.2 read.3 write
    kind-back client_link read write = link-answer Link.Client read.0 read.1 read.2 read.3 write
    kind-back udp_link read write = link-answer Link.Udp read.0 read.1 read.2 read.3 write
    kind-back known_met read write = known-answer read.0 read.1 read.2 read.3 write
    kind-back server_met read write = server-answer read.0 read.1 read.2 read.3 write
    kind-back part_met read write = part-answer read.0 read.1 read.2 read.3 write
    kind-back lone_query read write = query-answer read.0 read.1 read.2 read.3 write
    kind-back lone_tags read write = tags-answer read.0 read.1 read.2 read.3 write

    -- The whole calls: `r` is what `ed2k_read` leaves, and `w` what `ed2k_write` leaves.
    pub read_back : (kind : ℕ) → ReadOf (lookup kinds kind) s old r → WriteOf (lookup kinds kind) s r.numbers output w → Back
    read_back kind read write = go (lookup kinds kind) read write
      where
        go : (k : Option messages.Kind) → ReadOf k s old r → WriteOf k s r.numbers output w → Back
        go none read write = let four : r.number ≡ 4 = ap (λ r. r.number) read in absurd (omega (arith, four, ok))
        go (some k) read write = kind-back k read write
