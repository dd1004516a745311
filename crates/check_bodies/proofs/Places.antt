-- Lists and queries that are encoded at their offset: the record Listed for each kind of item, and the same for a query.
use Prim.Native.Nat.{ℕ, ◌-◌, ◌≤◌}
use mathlib.Core.Path.{◌≡◌, refl, ap}
use mathlib.Core.List.{List}
use native.Mathlib.Omega.{arith}
use lib.ListN.{length}
use Rattle.format.specs.Messages as messages
use Rattle.format.specs.Layout.{encode_address, encode_hash, encode_query, encode_record, encode_tag}
use Rattle.format.specs.Rules.{Bytes, ValidAddress, ValidHash, ValidQuery, ValidRecord, ValidTag}
use Rattle.format.specs.Decoding.{Outcome, bytes_at, ends, got, refused}
use Rattle.format.specs.Order.{decode_address, decode_hash, decode_query, decode_record, decode_tag}
use Rattle.format.proofs.Items.{codec-address, codec-hash, codec-query, codec-record, codec-tag}
use Rattle.format.proofs.Writing.{address-needed, hash-needed, lies, query-needed, record-needed, tag-needed}
use Rattle.wire.specs.declared.Items.{Items}
use Rattle.query.specs.declared.Query.{Query}
use Rattle.query.specs.QueryAnswers.{query_in, query_of}
use Rattle.write_items.specs.There.{items_there}
use Rattle.write_items.proofs.Listed.{Listed, listed, run-few}
use Rattle.check_bodies.specs.Bodies.{query_there}

pub got-ends : {A : Type 0} {o : Outcome A} {a : A} {next : ℕ} → got a next ≡ o → ends o ≡ got tt next
unfolding ends
got-ends e = rw (← e) refl

-- Lists of each kind of item.
module _ (s : List ℕ) (hb : Bytes s) (l : Items) {end : ℕ} where
  pub addresses-listed : items_there decode_address s l ≡ got tt end → Listed decode_address encode_address ValidAddress s l end
  addresses-listed = listed codec-address address-needed s hb l

  pub hashes-listed : items_there decode_hash s l ≡ got tt end → Listed decode_hash encode_hash ValidHash s l end
  hashes-listed = listed codec-hash hash-needed s hb l

  pub tags-listed : items_there decode_tag s l ≡ got tt end → Listed decode_tag encode_tag ValidTag s l end
  tags-listed = listed codec-tag tag-needed s hb l

  pub records-listed : items_there decode_record s l ≡ got tt end → Listed decode_record encode_record ValidRecord s l end
  records-listed = listed codec-record record-needed s hb l

-- A query that lies at its place, up to `end`.
pub record QueryListed (s : List ℕ) (q : Query) (end : ℕ) : Type 0 where
  pub there : query_there s q ≡ got tt end
  pub order : q.at ≤ end
  pub few : end - q.at ≤ length s
  pub size : length (encode_query (query_in s q)) ≡ end - q.at
  pub bytes : bytes_at s q.at (end - q.at) ≡ encode_query (query_in s q)
  pub valid : ValidQuery (query_in s q)

query-got : (o : Outcome messages.Query) (end : ℕ) → ends o ≡ got tt end → o ≡ got (query_of o) end
unfolding ends
query-got (refused f) end e = cc
query-got (got q next) end e = cc

pub query-listed : (s : List ℕ) → Bytes s → (q : Query) {end : ℕ} → query_there s q ≡ got tt end → QueryListed s q end
query-listed s hb q {end} e =
    let h = lies codec-query query-needed s hb q.at (query-got (decode_query s q.at) end e) in
    record {
      there = e;
      order = omega (arith, h.end);
      few = omega (arith, run-few s q.at (end - q.at), ap length h.bytes, h.end);
      size = omega (arith, h.end);
      bytes = h.bytes;
      valid = h.valid;
    }
