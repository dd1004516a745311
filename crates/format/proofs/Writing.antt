-- Laws of a write: what a writer answers is determined, it accepts exactly the valid messages, and what it writes is read back.
use mathlib.Core.Path.{◌≡◌, refl, sym, ap, ◌∙◌, subst}
use mathlib.Core.Bool.{Bool, true, false}
use mathlib.Core.Logic.{◌↔◌}
use mathlib.Core.List.{List, [], ◌∷◌, append-nil}
use Prim.Native.Nat.{ℕ, zero, suc, ◌+◌, ◌-◌, ◌≤◌, ◌<◌}
use native.Mathlib.Omega.{arith}
use lib.ListN.{length, take, drop, length-append, length-drop}
use lib.Seq.{take-append_seam, take_at}
use lib.Dec.{eqb, leb}
use borrow.Author.Tests.{le-leb, leb-true, eq-eqb, eqb-true, eqb-false}
use Rattle.format.specs.Tables.{pick}
use Rattle.format.specs.Messages.{TagType, hash_type, string_type, dword_type, float_type, TagValue, Tag, Record, Query, join, keyword, field, limit}
use Rattle.format.specs.Messages.{Shape, Values, nothing_body, query_body, hash_body, dword_body, two_dwords_body, text_body, two_texts_body, address_body, addresses_body, hash_addresses_body, address_dword_body, hash_address_tags_body, record_body, records_body, records_flag_body, record_address_body, hello_body, hash_text_body, hashset_body, sending_part_body, request_parts_body, file_status_body, status_request_body, status_body}
use Rattle.format.specs.Messages.{FileEntry, ServerEntry, PartMet, e0, e1, Kind, server_link, client_link, udp_link, known_met, server_met, part_met, lone_query, lone_tags, Message}
use Rattle.format.specs.Layout.{encode, encode_all}
use Rattle.format.specs.Rules.{All, Bytes, Valid, ValidValue, ValidTag, ValidTags, ValidRecord, ValidLeaves, ValidValues, ValidFileEntry, ValidServerEntry, ValidPartMet, ceiling}
use Rattle.format.specs.Decoding.{Answer, Decoder, Fault, Rule, accepted, bytes_at, decode_many, decode_run, decode_whole, fault, got, number, refusal}
use Rattle.format.specs.Order.{decode_address, decode_byte, decode_code, decode_dword, decode_hash, decode_query, decode_query_in, decode_record, decode_tag, decode_type, query_cases, tag_types}
use Rattle.format.specs.MetOrder.{decode, decode_file_entry, decode_server_entry}
use Rattle.format.specs.Writing.{CountsFit, ValueFits, TagFits, TagsFit, RecordFits, QueryFits, ValuesFit, FileEntryFits, ServerEntryFits, PartMetFits}
use Rattle.format.specs.Demands.{Untouched}
use Rattle.format.specs.Writing.{Judged, overflows, another, refused_for, fine, Written, overwritten, unwritten, written_into, Writes, refuses, tries}
use Rattle.format.proofs.Differ.{differ}
use Rattle.format.proofs.Codec.{anywhere, at_end, Codec, Found, codec-many, moved, never, went}
use Rattle.format.proofs.There.{byte-ends, dword-ends, run-was}
use Rattle.format.proofs.Packets.{length-tcp}
use Rattle.format.proofs.Acceptance.{codec, accepts}

module _ {A : Type 0} where
  pub not-both : {f : Fault} {a : A} → refusal f ≡ accepted a → ⊥
  not-both e = differ cc

  pub same-message : {a b : A} → accepted a ≡ accepted b → a ≡ b
  same-message e = cc

  pub same-fault : {f g : Fault} → ◌≡◌ {A = Answer A} (refusal f) (refusal g) → f ≡ g
  same-fault e = cc

-- The number of a broken rule is one of 1 to 9.
number-range : (r : Rule) → (1 ≤ number r) × (number r ≤ 9)
number-range Rule.short = (omega arith, omega arith)
number-range Rule.opening = (omega arith, omega arith)
number-range Rule.frame_length = (omega arith, omega arith)
number-range Rule.kind = (omega arith, omega arith)
number-range Rule.choice = (omega arith, omega arith)
number-range Rule.status_bit = (omega arith, omega arith)
number-range Rule.bytes_ceiling = (omega arith, omega arith)
number-range Rule.depth_ceiling = (omega arith, omega arith)
number-range Rule.name_ceiling = (omega arith, omega arith)
number-range Rule.gap_ceiling = (omega arith, omega arith)
number-range Rule.rest = (omega arith, omega arith)
number-range Rule.order = (omega arith, omega arith)
number-range Rule.data_length = (omega arith, omega arith)
number-range Rule.size_tag = (omega arith, omega arith)

pub number-some : (r : Rule) → number r ≡ 0 → ⊥
number-some r e = omega (arith, (number-range r).0)

pub number-below : (r : Rule) → number r < 10
number-below r = omega (arith, (number-range r).1)

-- A rule at each element carries over to another.
pub all_map : {A : Type 0} {P Q : A → Type 0} → ((a : A) → P a → Q a) → (l : List A) → All P l → All Q l
all_map f [] h = tt
all_map f (a ∷ l) h = (f a h.0, all_map f l h.1)

-- The counts of a valid message fit.
value-fits : (t : TagType) (v : TagValue t) → ValidValue t v → ValueFits t v
value-fits hash_type v h = tt
value-fits string_type v h = h.0
value-fits dword_type v h = tt
value-fits float_type v h = tt

pub tag_fits : (t : Tag) → ValidTag t → TagFits t
tag_fits t h = (omega (arith, h.name.few), value-fits t.value.0 t.value.1 h.value)

pub tags-fit : (l : List Tag) → ValidTags l → TagsFit l
tags-fit l h = (h.0, all_map tag_fits l h.1)

record-fits : (r : Record) → ValidRecord r → RecordFits r
record-fits r h = tags-fit r.tags h.tags

pub query-fits : (q : Query) → ValidLeaves q → QueryFits q
unfolding ValidLeaves QueryFits
query-fits (join o q r) h = (query-fits q h.0, query-fits r h.1)
query-fits (keyword t) h = h.0
query-fits (field t n) h = (h.0.0, omega (arith, h.1.few))
query-fits (limit v b n) h = omega (arith, h.1.few)

values-fit : (s : Shape) (v : Values s) → ValidValues s v → ValuesFit s v
values-fit nothing_body v h = tt
values-fit query_body v h = query-fits v h.0
values-fit hash_body v h = tt
values-fit dword_body v h = tt
values-fit two_dwords_body v h = tt
values-fit text_body v h = h.0
values-fit two_texts_body v h = (h.0.0, h.1.0)
values-fit address_body v h = tt
values-fit addresses_body v h = h.0
values-fit hash_addresses_body v h = h.1.0
values-fit address_dword_body v h = tt
values-fit hash_address_tags_body v h = tags-fit v.1.1 h.1.1
values-fit record_body v h = record-fits v h
values-fit records_body v h = (h.0, all_map record-fits v h.1)
values-fit records_flag_body v h = (h.0.0, all_map record-fits v.0 h.0.1)
values-fit record_address_body v h = record-fits v.0 h.0
values-fit hello_body v h = record-fits v.0 h.0
values-fit hash_text_body v h = h.1.0
values-fit hashset_body v h = h.1.0
values-fit sending_part_body v h = tt
values-fit request_parts_body v h = tt
values-fit file_status_body v h = h.parts
values-fit status_request_body v h = tt
values-fit status_body v h = tt

file-fits : (e : FileEntry) → ValidFileEntry e → FileEntryFits e
file-fits e h = (h.parts.0, tags-fit e.tags h.tags)

server-fits : (e : ServerEntry) → ValidServerEntry e → ServerEntryFits e
server-fits e h = tags-fit e.tags h.tags

part-fits : (m : PartMet) → ValidPartMet m → PartMetFits m
unfolding ValidPartMet PartMetFits
part-fits (e0 e) h = file-fits e h.entry
part-fits (e1 m) h = tags-fit m.tags h.tags

pub valid-fits : (k : Kind) (m : Message k) → Valid k m → CountsFit k m
valid-fits server_link m h = values-fit m.body.0 m.body.1 h.content.values
valid-fits client_link m h = values-fit m.body.0 m.body.1 h.content.values
valid-fits udp_link m h = values-fit m.body.0 m.body.1 h.content.values
valid-fits known_met m h = (h.content.entries.0, all_map file-fits m.entries h.content.entries.1)
valid-fits server_met m h = (h.content.entries.0, all_map server-fits m.entries h.content.entries.1)
valid-fits part_met m h = part-fits m h.content
valid-fits lone_query m h = query-fits m h.content.0
valid-fits lone_tags m h = tags-fit m h.content

-- The encoding of a valid message is accepted as this message.
whole-decodes : {A : Type 0} {r : Decoder A} {encode : A → List ℕ} {Valid : A → Type 0} → Codec at_end r encode Valid → (ceiling : ℕ) (a : A) → Valid a →
    length (encode a) ≤ ceiling → decode_whole ceiling r (encode a) ≡ accepted a
whole-decodes {r = r} {encode} L ceiling a h few =
    let e : r (encode a) 0 ≡ got a (0 + length (encode a)) = L.complete (encode a) 0 a [] h (sym (append-nil (encode a))) (omega arith) refl in
    rw (le-leb (length (encode a)) ceiling few, e, eq-eqb (0 + length (encode a)) (length (encode a)) (omega arith))

pub valid-decodes : (k : Kind) (m : Message k) → Valid k m → decode k (encode k m) ≡ accepted m
unfolding decode
valid-decodes server_link m h = whole-decodes (codec server_link) (ceiling server_link) m (h.content, omega (arith, h.few, length-tcp m)) h.few
valid-decodes client_link m h = whole-decodes (codec client_link) (ceiling client_link) m (h.content, omega (arith, h.few, length-tcp m)) h.few
valid-decodes udp_link m h = whole-decodes (codec udp_link) (ceiling udp_link) m h.content h.few
valid-decodes known_met m h = whole-decodes (codec known_met) (ceiling known_met) m h.content h.few
valid-decodes server_met m h = whole-decodes (codec server_met) (ceiling server_met) m h.content h.few
valid-decodes part_met m h = whole-decodes (codec part_met) (ceiling part_met) m h.content h.few
valid-decodes lone_query m h = whole-decodes (codec lone_query) (ceiling lone_query) m h.content h.few
valid-decodes lone_tags m h = whole-decodes (codec lone_tags) (ceiling lone_tags) m h.content h.few

module _ (k : Kind) (m : Message k) where
  -- A message has one number.
  pub judged-once : {a b : ℕ} → Judged k m a → Judged k m b → a ≡ b
  judged-once (overflows f) (overflows g) = refl
  judged-once (overflows f) (another g n d e) = absurd (f g)
  judged-once (overflows f) (refused_for g y e) = absurd (f g)
  judged-once (overflows f) (fine g e) = absurd (f g)
  judged-once (another f n d e) (overflows g) = absurd (g f)
  judged-once (another f n d e) (another g n' d' e') = refl
  judged-once (another f n d e) (refused_for g y e') = absurd (not-both (sym e' ∙ e))
  judged-once (another f n d e) (fine g e') = absurd (d (same-message (sym e ∙ e')))
  judged-once (refused_for f x e) (overflows g) = absurd (g f)
  judged-once (refused_for f x e) (another g n d e') = absurd (not-both (sym e ∙ e'))
  judged-once (refused_for f x e) (refused_for g y e') = ap (λ z. number z.rule) (same-fault (sym e ∙ e'))
  judged-once (refused_for f x e) (fine g e') = absurd (not-both (sym e ∙ e'))
  judged-once (fine f e) (overflows g) = absurd (g f)
  judged-once (fine f e) (another g n d e') = absurd (d (same-message (sym e' ∙ e)))
  judged-once (fine f e) (refused_for g y e') = absurd (not-both (sym e' ∙ e))
  judged-once (fine f e) (fine g e') = refl

  -- A message with no fault is what its bytes are accepted as.
  pub judged-decodes : {n : ℕ} → Judged k m n → n ≡ 0 → decode k (encode k m) ≡ accepted m
  judged-decodes (overflows f) z = absurd (omega arith)
  judged-decodes (another f n d e) z = absurd (omega arith)
  judged-decodes (refused_for f x e) z = absurd (number-some x.rule z)
  judged-decodes (fine f e) z = e

  -- A valid message has no fault, and only a valid one has none.
  pub valid-judged : Valid k m → Judged k m 0
  valid-judged h = fine (valid-fits k m h) (valid-decodes k m h)

  pub judged-valid : Bytes (encode k m) → Judged k m 0 ↔ Valid k m
  judged-valid hb = (λ j. ((accepts k (encode k m) hb m).0 (judged-decodes j refl)).1, valid-judged)

  -- The answer to a write is determined.
  pub writes-once : (output : List ℕ) {v w : Written} → Writes k m output v → Writes k m output w → v ≡ w
  writes-once output (refuses a j f) (refuses b i g) = ap (λ n. unwritten n output) (judged-once j i)
  writes-once output (refuses a j f) (tries i) = absurd (f (judged-once j i))
  writes-once output (tries j) (refuses b i g) = absurd (g (judged-once i j))
  writes-once output (tries j) (tries i) = refl

  -- What was written is read as the message.
  pub writes_reads : (output : List ℕ) {w : Written} → Writes k m output w → w.number ≡ 0 → decode k (take w.length w.output) ≡ accepted m
  writes_reads output (refuses n j f) z = absurd (f z)
  writes_reads output (tries j) z = go (leb (length (encode k m)) (length output)) z
    where
      answer : Bool → Written
      answer t = pick t (record { number = 0; length = length (encode k m); output = overwritten (encode k m) output }) (unwritten 10 output)

      go : (t : Bool) → (answer t).number ≡ 0 → decode k (take (answer t).length (answer t).output) ≡ accepted m
      go true z = rw (take-append_seam (encode k m) (drop (length (encode k m)) output)) (judged-decodes j refl)
      go false z = absurd (omega arith)

  -- Writing what was read gives the same bytes.
  pub reads-writes : (s : List ℕ) → Bytes s → decode k s ≡ accepted m → encode k m ≡ s
  reads-writes s hb e = sym ((accepts k s hb m).0 e).0

  pub read-judged : (s : List ℕ) → Bytes s → decode k s ≡ accepted m → Judged k m 0
  read-judged s hb e = valid-judged ((accepts k s hb m).0 e).1

  -- A writer that knows the number writes or refuses by it.
  pub judged-writes : (output : List ℕ) (n : ℕ) → Judged k m n → Writes k m output (pick (eqb n 0) (written_into (encode k m) output) (unwritten n output))
  judged-writes output n j = go (eqb n 0) refl
    where
      go : (t : Bool) → eqb n 0 ≡ t → Writes k m output (pick t (written_into (encode k m) output) (unwritten n output))
      go true e = tries (subst (Judged k m) (eqb-true n 0 e) j)
      go false e = refuses n j (eqb-false n 0 e)

  -- The byte ceiling comes first of what the reader says.
  pub ceiling-judged : (n : ℕ) → CountsFit k m → (length (encode k m) ≤ ceiling k → Judged k m n) → Judged k m (pick (leb (length (encode k m)) (ceiling k)) n 6)
  unfolding decode
  ceiling-judged n fit j = go (leb (length (encode k m)) (ceiling k)) refl
    where
      go : (t : Bool) → leb (length (encode k m)) (ceiling k) ≡ t → Judged k m (pick t n 6)
      go true e = j (leb-true _ _ e)
      go false e = refused_for fit (fault Rule.bytes_ceiling 0 (length (encode k m))) (rw e refl)

  -- A message whose counts fit, and which breaks no rule but the byte ceiling.
  pub ceiling-writes : (output : List ℕ) → CountsFit k m → (length (encode k m) ≤ ceiling k → Valid k m) →
      Writes k m output (pick (leb (length (encode k m)) (ceiling k)) (written_into (encode k m) output) (unwritten 6 output))
  ceiling-writes output fit valid = go (leb (length (encode k m)) (ceiling k)) (ceiling-judged 0 fit (λ few. valid-judged (valid few)))
    where
      go : (t : Bool) → Judged k m (pick t 0 6) → Writes k m output (pick t (written_into (encode k m) output) (unwritten 6 output))
      go true j = tries j
      go false j = refuses 6 j (λ z. omega arith)

-- A value by its place: what was decoded there lies there as its encoding, up to the offset after it.
pub record Lies {A : Type 0} (encode : A → List ℕ) (Valid : A → Type 0) (s : List ℕ) (at : ℕ) (a : A) (next : ℕ) : Type 0 where
  pub end : next ≡ at + length (encode a)
  pub bytes : bytes_at s at (next - at) ≡ encode a
  pub valid : Valid a

found-lies : {A : Type 0} {encode : A → List ℕ} {Valid : A → Type 0} {s : List ℕ} {at next : ℕ} {a : A} → at ≤ length s →
    Found encode Valid s at a next → Lies encode Valid s at a next
found-lies {encode = encode} {s = s} {at} {next} {a} i f =
    let end : next ≡ at + length (encode a) =
    omega (arith, i, f.inside, ap length f.bytes, length-append (encode a) (drop next s), length-drop at s, length-drop next s) in
    record { end = end; bytes = rw f.bytes (take_at (encode a) (drop next s) (next - at) (omega arith)); valid = f.valid }

-- A decoder that needs a byte finds nothing at an offset after the end.
abbrev pub NeedsByte : {A : Type 0} → Decoder A → Type 0
NeedsByte {A} r = (s : List ℕ) (at : ℕ) (a : A) (next : ℕ) → r s at ≡ got a next → at ≤ length s

pub run-needed : (k : ℕ) → NeedsByte (decode_run k)
run-needed k s at a next e = omega (arith, (run-was s at k e).0)

pub hash-needed : NeedsByte decode_hash
unfolding decode_hash
hash-needed = run-needed 16

dword-needed : NeedsByte decode_dword
dword-needed s at a next e = omega (arith, (dword-ends s at e).0)

pub address-needed : NeedsByte decode_address
unfolding decode_address
address-needed s at a next e = let w = went s (decode_dword s at) e in dword-needed s at w.first w.mid w.was

pub record-needed : NeedsByte decode_record
unfolding decode_record
record-needed s at a next e = let w = went s (decode_hash s at) e in hash-needed s at w.first w.mid w.was

pub entry-needed : NeedsByte decode_file_entry
unfolding decode_file_entry
entry-needed s at a next e = let w = went s (decode_dword s at) e in dword-needed s at w.first w.mid w.was

pub server-needed : NeedsByte decode_server_entry
unfolding decode_server_entry
server-needed s at a next e = let w = went s (decode_dword s at) e in dword-needed s at w.first w.mid w.was

code-needed : {K : Type 0} (table : List (ℕ × K)) → NeedsByte (decode_code table)
unfolding decode_code
code-needed table s at k next e = let w = went s (decode_byte s at) e in omega (arith, (byte-ends s at w.was).0)

pub tag-needed : NeedsByte decode_tag
unfolding decode_tag decode_type
tag-needed s at t next e = let w = went s (decode_type s at) e in code-needed tag_types s at w.first w.mid w.was

query_in-needed : (d : ℕ) → NeedsByte (decode_query_in d)
unfolding decode_query_in
query_in-needed zero s at q next e = absurd (never e)
query_in-needed (suc d) s at q next e = let w = went s (decode_code query_cases s at) e in code-needed query_cases s at w.first w.mid w.was

pub query-needed : NeedsByte decode_query
unfolding decode_query
query-needed = query_in-needed 24

module _ {A : Type 0} {r : Decoder A} {encode : A → List ℕ} {Valid : A → Type 0} (L : Codec anywhere r encode Valid) (needed : NeedsByte r) (s : List ℕ) (hb : Bytes s) (at : ℕ) where
  pub lies : {a : A} {next : ℕ} → r s at ≡ got a next → Lies encode Valid s at a next
  lies {a} {next} e = let i = needed s at a next e in found-lies i (L.sound s hb at i _ _ e tt)

  -- No items lie anywhere.
  pub many-lies : (n : ℕ) {l : List A} {next : ℕ} → decode_many n r s at ≡ got l next → Lies (encode_all encode) (λ l. (length l ≡ n) × All Valid l) s at l next
  many-lies zero e =
      let none : at - at ≡ 0 = omega arith in
      moved (Lies (encode_all encode) (λ l. (length l ≡ 0) × All Valid l) s at) e (record { end = omega arith; bytes = rw none refl; valid = (refl, tt) })
  many-lies (suc n) e =
      let w = went s (r s at) e in
      let i = needed s at w.first w.mid w.was in
      found-lies i ((codec-many {p = anywhere} (suc n) L).sound s hb at i _ _ e tt)

-- What has no room leaves the output as it was.
pub untouched-room : (bytes output : List ℕ) → Untouched output (written_into bytes output)
untouched-room bytes output = go (leb (length bytes) (length output))
  where
    go : (t : Bool) → Untouched output (pick t (record { number = 0; length = length bytes; output = overwritten bytes output }) (unwritten 10 output))
    go true h = absurd (h refl)
    go false h = (refl, refl)
