-- A lone tag list and a lone query that were read are written back as their bytes: from the contracts of reader and writer, and no other fact.
use Prim.Native.Nat.{ℕ, ◌≤◌}
use mathlib.Core.Path.{◌≡◌, refl, sym, ◌∙◌}
use mathlib.Core.Logic.{◌↔◌}
use mathlib.Core.List.{List}
use lib.ListN.{length}
use native.Mathlib.Omega.{arith}
use Rattle.format.specs.Messages as messages
use Rattle.format.specs.Messages.{lone_query, lone_tags}
use Rattle.format.specs.Layout.{encode_query, encode_tags}
use Rattle.format.specs.Rules.{Bytes, Valid, depth_limit}
use Rattle.format.specs.Decoding.{Outcome, ends, got, message, refused, reply}
use Rattle.format.specs.Order.{decode_byte, decode_code, decode_query, decode_tag, query_cases}
use Rattle.format.specs.MetOrder.{decode}
use Rattle.format.specs.Writing.{overwritten}
use Rattle.format.specs.RoundTrip.{RoundTrip, WritesAt}
use Rattle.format.proofs.Differ.{differ}
use Rattle.format.proofs.Codec.{anywhere, went}
use Rattle.format.proofs.Items.{codec-query}
use Rattle.format.proofs.There.{byte-ends}
use Rattle.std.specs.Prelude.{Ok, Result}
use Rattle.wire.specs.declared.Items.{Items}
use Rattle.wire.specs.declared.Rule.{Rule}
use Rattle.wire.specs.WireAnswers.{ItemsInside, items_in}
use Rattle.tags.specs.TagAnswers.{TagListPlaced, tag_list_reply}
use Rattle.query.specs.declared.Query.{Query}
use Rattle.query.specs.Nodes.{decode_node, depths}
use Rattle.query.proofs.Nodes.{query-left}
use Rattle.query.specs.QueryAnswers.{QueryAnswerPlaced, QueryPlaced, query_in, query_of, query_reply}
use Rattle.output.specs.declared.Refusal.{Refusal}
use Rattle.output.specs.WriteAnswers.{answered}
use Rattle.write_items.specs.There.{items_there}
use Rattle.write_items.proofs.Back.{items-here, query-here, written_back}

module _ (s : List ℕ) (r : Result Items Rule)
    (meaning : tag_list_reply s r ≡ reply (decode lone_tags s))
    (placed : TagListPlaced s r)
    (exact : (m : List messages.Tag) → (tag_list_reply s r ≡ message m) ↔ ((s ≡ encode_tags m) × Valid lone_tags m))
    (l : Items) (accepted : r ≡ Ok l) where
  pub tag-list-back : (output out : List ℕ) (a : Result ℕ Refusal) →
      WritesAt lone_tags (items_there decode_tag s l) (items_in decode_tag s l) output (answered a out) →
      RoundTrip lone_tags (items_there decode_tag s l) (items_in decode_tag s l) output (answered a out) →
      length s ≤ length output → answered a out ≡ record { number = 0; length = length s; output = overwritten s output }
  tag-list-back output out a writes round room =
      let here : ItemsInside decode_tag s l = rw accepted at placed in
      written_back lone_tags (items_there decode_tag s l) (items_in decode_tag s l) s output (items-here s decode_tag l here) ((exact (items_in decode_tag s l)).0 (rw accepted refl)) room writes round

query-found : (o : Outcome messages.Query) {depth end : ℕ} → depths o ≡ got depth end → o ≡ got (query_of o) end
unfolding depths
query-found (refused f) e = differ cc
query-found (got q next) e = cc

-- The end of a query is inside: a query begins with a byte that is there.
pub query-inside : (s : List ℕ) → Bytes s → (q : Query) → QueryPlaced s q → q.end ≤ length s
unfolding decode_query decode_node decode_code
query-inside s hb q h =
    let found = query-found (decode_query s q.at) h in
    let node = went s (decode_node s q.at) (sym (query-left depth_limit (λ z. absurd (omega arith)) s q.at) ∙ found) in
    let code = went s (decode_code query_cases s q.at) node.was in
    let first = went s (decode_byte s q.at) code.was in
    let there = byte-ends s q.at first.was in
    ((codec-query {p = anywhere}).sound s hb q.at (omega (arith, there.0)) _ _ found tt).inside

module _ (s : List ℕ) (r : Result Query Rule)
    (meaning : query_reply s r ≡ reply (decode lone_query s))
    (placed : QueryAnswerPlaced s r)
    (demand3 : (m : messages.Query) → (query_reply s r ≡ message m) ↔ ((s ≡ encode_query m) × Valid lone_query m))
    (q : Query) (accepted : r ≡ Ok q) where
  pub query-back : (output out : List ℕ) (a : Result ℕ Refusal) →
      WritesAt lone_query (ends (decode_query s q.at)) (query_in s q) output (answered a out) →
      RoundTrip lone_query (ends (decode_query s q.at)) (query_in s q) output (answered a out) →
      length s ≤ length output → answered a out ≡ record { number = 0; length = length s; output = overwritten s output }
  query-back output out a writes round room =
      let here : QueryPlaced s q = rw accepted at placed in
      written_back lone_query (ends (decode_query s q.at)) (query_in s q) s output (query-here s q here) ((demand3 (query_in s q)).0 (rw accepted refl)) room writes round
