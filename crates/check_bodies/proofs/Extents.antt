-- Laws of the extents of parts.
use Prim.Native.Nat.{ℕ, ◌+◌, ◌-◌, ◌≤◌, ◌<◌}
use mathlib.Core.Path.{◌≡◌, sym, ap, ◌∙◌, subst}
use mathlib.Core.List.{List, [], ◌∷◌}
use native.Mathlib.Omega.{arith}
use lib.ListN.{length}
use Rattle.format.specs.Bits.{pack_bits, spec_packed_bytes}
use Rattle.format.specs.Messages as messages
use Rattle.format.specs.Layout.{encode_all, encode_query, encode_string}
use Rattle.format.specs.Rules.{All, ValidRecord, Word}
use Rattle.format.specs.Decoding.{Decoder, Outcome, bytes_at, ends, refused}
use Rattle.format.specs.Order.{decode_hash}
use Rattle.format.specs.Writing.{QueryFits, RecordFits, StringFits, ValuesFit}
use Rattle.format.proofs.Bits.{bits-length, packed-length}
use Rattle.format.proofs.Writing.{query-fits, tags-fit}
use Rattle.write_items.proofs.Pieces.{length-string}
use Rattle.write_items.proofs.Listed.{Listed, run-few}
use Rattle.std.specs.Prelude.{Result, Ok, Err, Some, None, IsErrAnd}
use Rattle.wire.specs.declared.Fault.{Fault}
use Rattle.wire.specs.declared.Items.{Items}
use Rattle.wire.specs.declared.Place.{Place}
use Rattle.wire.specs.WireAnswers.{fault_meaning, hash_at, items_in, place_bytes}
use Rattle.wire.proofs.Steps.{propagated}
use Rattle.output.specs.declared.Refusal.{Refusal}
use Rattle.output.specs.WriteAnswers.{number_of, refusal_of}
use Rattle.query.specs.declared.Query.{Query}
use Rattle.query.specs.QueryAnswers.{query_in}
use Rattle.bodies.specs.declared.Body.{Body}
use Rattle.bodies.specs.BodyAnswers.{body_in, held_at}
use Rattle.write_items.specs.There.{both_there, hash_there, items_there, place_there}
use Rattle.write_items.proofs.There.{is-there, both-second, run-size}
use Rattle.format.specs.RoundTrip.{IsThere}
use Rattle.check_bodies.specs.Extents.{Adds, BothAdd, Extends, Extent, NoEnd, absent, spec_bytes_after, both_extents, list_bound, sized, too_long}
use Rattle.check_bodies.specs.declared.BodyCheck.{BodyCheck}
use Rattle.check_bodies.specs.Bodies.{BodyChecked, BodyEnds, BodyRule, EndsAt, body_there, bytes_of, query_there}
use Rattle.check_bodies.proofs.Places.{QueryListed}

module _ {there : Outcome (Unit {0})} {Fits : Type 0} {size : ℕ} {Ends : ℕ → Type 0} {bound : ℕ} where
  pub adds : {e : Extent} (k : ℕ) → Extends there Fits size Ends bound e → k + bound < 18446744073709551616 → Adds k e
  adds k (absent f p) h = tt
  adds k (too_long t n) h = tt
  adds k (sized n end t f s b p) h = omega arith

  pub after-extends : {e : Extent} (k : ℕ) → Extends there Fits size Ends bound e → Extends there Fits (k + size) Ends (k + bound) (spec_bytes_after k e)
  after-extends k (absent f p) = absent f p
  after-extends k (too_long t n) = too_long t n
  after-extends k (sized n end t f s b p) = sized (k + n) end t f (ap (λ n. k + n) s) (omega arith) p

  pub recast : {e : Extent} {Fits' : Type 0} {Ends' : ℕ → Type 0} (size' bound' : ℕ) → (Fits → Fits') → (Fits' → Fits) → size ≡ size' → ((end : ℕ) → Ends end → Ends' end) → bound ≤ bound' →
      Extends there Fits size Ends bound e → Extends there Fits' size' Ends' bound' e
  recast size' bound' to from same ended more (absent f p) = absent f p
  recast size' bound' to from same ended more (too_long t n) = too_long t (λ f. n (from f))
  recast size' bound' to from same ended more (sized n end t f s b p) = sized n end t (to f) (s ∙ same) (omega arith) (ended end p)

module _ {a b : Outcome (Unit {0})} {A B : Type 0} {m n : ℕ} {E F : ℕ → Type 0} {x y : ℕ} where
  pub both-adds : {e f : Extent} → Extends a A m E x e → Extends b B n F y f → x + y < 18446744073709551616 → BothAdd e f
  both-adds (absent g p) h few = tt
  both-adds (too_long t k) h few = tt
  both-adds (sized k end t g s l p) h few = adds k h (omega arith)

  pub both-extends : {e f : Extent} → Extends a A m E x e → Extends b B n F y f → Extends (both_there a b) (A × B) (m + n) F (x + y) (both_extents e f)
  both-extends (absent g p) h = absent g (ap (λ o. both_there o b) p)
  both-extends (too_long t k) (absent g p) = absent g (both-second a b t ∙ p)
  both-extends (too_long t k) (too_long u l) = too_long (subst IsThere (sym (both-second a b t)) u) (λ p. k p.0)
  both-extends (too_long t k) (sized j end u g s l p) = too_long (subst IsThere (sym (both-second a b t)) u) (λ p. k p.0)
  both-extends (sized i end₁ t g s l p) (absent h q) = absent h (both-second a b t ∙ q)
  both-extends (sized i end₁ t g s l p) (too_long u k) = too_long (subst IsThere (sym (both-second a b t)) u) (λ q. k q.1)
  both-extends (sized i end₁ t g s l p) (sized j end u h r k q) =
      sized (i + j) end (subst IsThere (sym (both-second a b t)) u) (g, h) (omega arith) (omega arith) q

-- `?` passes on the fault of a part that is not there.
module _ {Fits : Type 0} {size : ℕ} {Ends : ℕ → Type 0} {bound : ℕ} (f : Fault) (e : Extent) (passed : IsErrAnd e (λ g. g ≡ refusal_of f.rule)) where
  pub absent-there : {there : Outcome (Unit {0})} → refused (fault_meaning f) ≡ there → Extends there Fits size Ends bound e
  absent-there told = rw (propagated e passed) (absent f (sym told))

  pub absent-extends : {A : Type 0} {o : Outcome A} → refused (fault_meaning f) ≡ o → Extends (ends o) Fits size Ends bound e
  unfolding ends
  absent-extends told = absent-there (ap ends told)

-- A part that is there and has no list or query.
pub plain-extends : {there : Outcome (Unit {0})} {Fits : Type 0} {size bound : ℕ} (n : ℕ) → IsThere there → Fits → n ≡ size → n ≤ bound →
    Extends there Fits size NoEnd bound (Ok (Some (n, 0)))
plain-extends n t f s b = sized n 0 t f s b tt

pub hash-extends : (s : List ℕ) (at : ℕ) → IsThere (hash_there s at) → Extends (hash_there s at) (Unit {0}) (length (hash_at s at)) NoEnd 16 (Ok (Some (16, 0)))
unfolding decode_hash
hash-extends s at t = plain-extends 16 t tt (sym (run-size s at 16 t)) (omega arith)

module _ (s : List ℕ) (p : Place) (t : IsThere (place_there s p)) where
  pub place-extends : length s < 9223372036854775808 → Extends (place_there s p) (Unit {0}) (length (place_bytes s p)) NoEnd list_bound (Ok (Some (p.len, 0)))
  place-extends h =
      let size = run-size s p.at p.len t in
      plain-extends p.len t tt (sym size) (omega (arith, run-few s p.at p.len))

  pub text-long : 65535 < p.len → Extends (place_there s p) (StringFits (place_bytes s p)) (length (encode_string (place_bytes s p))) NoEnd 65537 (Ok None)
  text-long h = too_long t (λ f. omega (arith, run-size s p.at p.len t))

  pub text-extends : p.len ≤ 65535 → Extends (place_there s p) (StringFits (place_bytes s p)) (length (encode_string (place_bytes s p))) NoEnd 65537 (Ok (Some (2 + p.len, 0)))
  text-extends h =
      let size = run-size s p.at p.len t in
      plain-extends (2 + p.len) t (omega arith) (omega (arith, length-string (place_bytes s p))) (omega arith)

pub query-extends : (s : List ℕ) (q : Query) (end : ℕ) → QueryListed s q end → length s < 9223372036854775808 →
    Extends (query_there s q) (QueryFits (query_in s q)) (length (encode_query (query_in s q))) (EndsAt (query_there s q)) list_bound (Ok (Some (end - q.at, end)))
query-extends s q end h few = sized (end - q.at) end (is-there h.there) (query-fits (query_in s q) h.valid.0) (sym h.size) (omega (arith, h.few)) h.there

-- Lists: `head` is the size of the count.
module _ {A : Type 0} {d : Decoder A} {encode : A → List ℕ} {Valid : A → Type 0} {s : List ℕ} {l : Items} {end : ℕ} (h : Listed d encode Valid s l end) where
  pub list-long : {Fits : Type 0} {size : ℕ} → (Fits → ⊥) → Extends (items_there d s l) Fits size (EndsAt (items_there d s l)) list_bound (Ok None)
  list-long f = too_long (is-there h.there) f

  pub list-extends : {Fits : Type 0} (head : ℕ) → head ≤ 4 → Fits → length s < 9223372036854775808 →
      Extends (items_there d s l) Fits (head + length (encode_all encode (items_in d s l))) (EndsAt (items_there d s l)) list_bound (Ok (Some (head + (end - l.at), end)))
  list-extends head small f few = sized (head + (end - l.at)) end (is-there h.there) f (ap (λ n. head + n) (sym h.size)) (omega (arith, h.few)) h.there

-- The tags of records that lie somewhere fit.
pub records-fit : (l : List messages.Record) → All ValidRecord l → All RecordFits l
records-fit [] h = tt
records-fit (r ∷ l) h = (tags-fit r.tags h.0.tags, records-fit l h.1)

-- The bits of n parts.
module _ (n : ℕ) (s : List ℕ) (at : ℕ) where
  pub held-size : length (pack_bits (held_at n s at)) ≡ spec_packed_bytes n
  held-size = packed-length (held_at n s at) ∙ ap spec_packed_bytes (bits-length n (bytes_at s at (spec_packed_bytes n)))

  pub held_fits : Word n → Word (length (held_at n s at))
  held_fits h = omega (arith, bits-length n (bytes_at s at (spec_packed_bytes n)))

  pub held_word : Word (length (held_at n s at)) → Word n
  held_word h = omega (arith, bits-length n (bytes_at s at (spec_packed_bytes n)))

-- The three extents of a body are the three findings.
module _ {s : List ℕ} {b : Body} {size bound : ℕ} where
  pub absent-checked : {refusal : Refusal} (answer : Result BodyCheck Refusal) → IsErrAnd answer (λ g. g ≡ refusal) →
      Extends (body_there s b) (ValuesFit (body_in s b).0 (body_in s b).1) size (BodyEnds s b) bound (Err refusal) → BodyChecked s b answer
  absent-checked answer passed (absent f p) = rw (propagated answer passed) (BodyChecked.absent f p)

  pub long-checked : Extends (body_there s b) (ValuesFit (body_in s b).0 (body_in s b).1) size (BodyEnds s b) bound (Ok None) → BodyChecked s b (Err Refusal.Limit)
  long-checked (too_long t f) = BodyChecked.overflows t f

pub sized-checked : {s : List ℕ} {b : Body} {bound n end : ℕ} (rule : Result (Unit {0}) Refusal) →
    (IsThere (body_there s b) → ValuesFit (body_in s b).0 (body_in s b).1 → BodyRule (body_in s b) (number_of rule)) →
    Extends (body_there s b) (ValuesFit (body_in s b).0 (body_in s b).1) (length (bytes_of (body_in s b))) (BodyEnds s b) bound (Ok (Some (n, end))) →
    BodyChecked s b (Ok (record { size = n; end = end; rule = rule }))
sized-checked rule rules (sized n end t f s b p) = BodyChecked.sized n end rule t f s p (rules t f)
