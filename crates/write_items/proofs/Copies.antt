-- Messages that lie at a place: what their writers copy, and what they owe.
use Prim.Native.Nat.{ℕ, ◌+◌, ◌-◌, ◌≤◌, ◌<◌}
use mathlib.Core.Path.{◌≡◌, refl, sym, ap, subst, ◌∙◌}
use mathlib.Core.List.{List, [], ◌++◌}
use native.Mathlib.Omega.{arith}
use lib.ListN.{length, length-append}
use borrow.Author.Tests.{le-leb, lt-leb}
use Rattle.format.specs.Messages as messages
use Rattle.format.specs.Messages.{Kind, Message, lone_query, lone_tags}
use Rattle.format.specs.Layout.{dword, encode, encode_all, encode_tag, encode_tags}
use Rattle.format.specs.Rules.{Bytes, Dword, ValidTags, packet_ceiling}
use Rattle.format.specs.Decoding.{Outcome, bytes_at, decode_many, ends, got, items_of}
use Rattle.format.specs.Order.{decode_query, decode_tag}
use Rattle.format.specs.Writing.{Judged, Written, overwritten, unwritten}
use Rattle.format.proofs.Codec.{bytes-append, bytes-little_endian, bytes-part, length-little_endian}
use Rattle.format.proofs.Many.{ends-items}
use Rattle.format.proofs.Items.{codec-query, codec-tag}
use Rattle.format.proofs.Writing.{Lies, ceiling-judged, lies, many-lies, query-fits, query-needed, tag-needed, tags-fit, valid-judged}
use Rattle.wire.specs.declared.Items.{Items}
use Rattle.wire.specs.WireAnswers.{items_in}
use Rattle.query.specs.declared.Query.{Query}
use Rattle.query.specs.QueryAnswers.{query_in}
use Rattle.std.specs.Prelude.{Ok}
use Rattle.output.specs.WriteAnswers.{answered}
use Rattle.write_items.specs.There.{items_there}
use Rattle.write_items.specs.Numbers.{ceiling_number}
use Rattle.write_items.proofs.Answers.{Promised, Ready, message-ready, roomless, written}

-- What a writer copies from a place in s, after bytes of its own: the place is in order, and the byte ceiling is the only rule that can be
-- broken.
pub record Copies (W : List ℕ → Written → Type 0) (s : List ℕ) (at end : ℕ) (own : List ℕ) (total : ℕ) : Type 0 where
  pub order : at ≤ end
  pub size : length (bytes_at s at (end - at)) ≡ end - at
  pub ready : Ready W (ceiling_number total 0) (own ++ bytes_at s at (end - at)) total

module _ {W : List ℕ → Written → Type 0} {s : List ℕ} {at end : ℕ} {own : List ℕ} {total : ℕ} (c : Copies W s at end own total) {output : List ℕ} where
  pub over-ceiling : packet_ceiling < total → W output (unwritten 6 output)
  over-ceiling h =
      let six : ceiling_number total 0 ≡ 6 = rw (lt-leb total packet_ceiling h) refl in
      rw six at (c.ready.refuses output (λ none. omega (arith, six)))

  pub no_room : total ≤ packet_ceiling → length output < total → W output (unwritten 10 output)
  no_room h = roomless c.ready (rw (le-leb total packet_ceiling h) refl)

  pub copied : {new : List ℕ} {wrote : ℕ} → total ≤ packet_ceiling → total ≤ length output →
      record { written : wrote ≡ total; output : new ≡ overwritten (own ++ bytes_at s at (end - at)) output } → W output (answered (Ok wrote) new)
  copied h = written c.ready (rw (le-leb total packet_ceiling h) refl)

module _ (k : Kind) {encoded : Message k → List ℕ} {Right : Message k → Type 0} (m : Message k) (s : List ℕ) (hs : Bytes s) where
  lies-copies : {there : Outcome (Unit {0})} {at end : ℕ} → got tt end ≡ there → Lies encoded Right s at m end → (own : List ℕ) (total : ℕ) → own ++ encoded m ≡ encode k m →
      Bytes own → length own + (end - at) ≡ total → Judged k m (ceiling_number (length (encode k m)) 0) → Copies (Promised k there m) s at end own total
  lies-copies {at = at} {end} there l own total e ho sum judged =
      let bytes = bytes_at s at (end - at) in
      let size : length bytes ≡ end - at = omega (arith, l.end, ap length l.bytes) in
      let all : length (own ++ bytes) ≡ total = length-append own bytes ∙ omega (arith, size, sum) in
      let same : own ++ bytes ≡ encode k m = ap (λ b. own ++ b) l.bytes ∙ e in
      let number = subst (λ n. Judged k m (ceiling_number n 0)) (ap length (sym same) ∙ all) judged in
      record { order = omega (arith, l.end); size = size; ready = message-ready there number same (bytes-append own bytes ho (bytes-part s hs at (end - at))) all }

-- What the writers of a query and of a tag list copy, as far as the offset `end` that their reading gives.
abbrev pub QueryCopies : List ℕ → Query → ℕ → Type 0
QueryCopies s q end = Copies (Promised lone_query (ends (decode_query s q.at)) (query_in s q)) s q.at end [] (end - q.at)

abbrev pub ListCopies : List ℕ → Items → ℕ → Type 0
ListCopies s l end = Copies (Promised lone_tags (items_there decode_tag s l) (items_in decode_tag s l)) s l.at end (dword l.count) (4 + (end - l.at))

module _ (s : List ℕ) (hs : Bytes s) where
  pub query-copies : (q : Query) {m : messages.Query} {end : ℕ} → got m end ≡ decode_query s q.at → QueryCopies s q end
  unfolding ends
  query-copies q {m} {end} e =
      let l = lies codec-query query-needed s hs q.at (sym e) in
      rw (← e)
      (lies-copies lone_query m s hs refl l [] (end - q.at) refl tt (omega arith)
      (ceiling-judged lone_query m 0 (query-fits m l.valid.0) (λ few. valid-judged lone_query m (record { content = l.valid; few = few }))))

  pub list-copies : (l : Items) → Dword l.count → {end : ℕ} → got tt end ≡ items_there decode_tag s l → ListCopies s l end
  unfolding encode_tags
  list-copies l small {end} e =
      let o = decode_many l.count decode_tag s l.at in
      let h = many-lies codec-tag tag-needed s hs l.at l.count (sym (ends-items o end (sym e))) in
      let content : ValidTags (items_of o) = (rw h.valid.0 small, h.valid.1) in
      lies-copies lone_tags (items_of o) s hs e h (dword l.count) (4 + (end - l.at)) (ap (λ n. dword n ++ encode_all encode_tag (items_of o)) (sym h.valid.0))
      (bytes-little_endian 4 l.count) (omega (arith, length-little_endian 4 l.count))
      (ceiling-judged lone_tags (items_of o) 0 (tags-fit (items_of o) content) (λ few. valid-judged lone_tags (items_of o) (record { content = content; few = few })))
