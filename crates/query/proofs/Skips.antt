-- Laws of going past a query: where its parts end, and what the extents of its sides make of its own.
use Prim.Native.Nat.{ℕ, max, ◌+◌, ◌*◌, ◌-◌, ◌≤◌}
use mathlib.Core.Path.{◌≡◌, refl, sym, ap, ◌∙◌}
use mathlib.Core.Logic.{◌⊎◌, inl, inr}
use mathlib.Core.Option.{some}
use mathlib.Core.List.{List}
use native.Mathlib.Omega.{arith}
use native.Mathlib.Decide.{dec_le}
use lib.ListN.{length, get_or}
use borrow.Author.Tests.{le-leb, ne_eqb}
use Rattle.format.specs.Tables.{lookup}
use Rattle.format.specs.Messages.{Query, Operator, and, or, and_not, Bound, at_least, at_most}
use Rattle.format.specs.Decoding.{Outcome, bytes_at, ends, got, refused}
use Rattle.format.specs.Order.{QueryCase, is_join, is_keyword, is_field, is_limit, query_cases, operators, bounds}
use Rattle.format.specs.Order.{decode_case, decode_code, decode_name, decode_query_in, decode_string}
use Rattle.format.proofs.Codec.{never, same_place}
use Rattle.format.proofs.There.{byte-there, dword-there, run-there, word-there}
use Rattle.wire.proofs.Loops.{ended-got}
use Rattle.query.specs.Nodes.{decode_leaf, decode_node, decode_node_of, depths}
use Rattle.query.specs.Skips.{EndsAt, Passes, Spans, depth_in, end_in, offset_after}
use Rattle.query.proofs.Nodes.{query_case}
use Rattle.query.proofs.Depths.{depth_join, depth_leaf}

-- What tests tell that do not answer 0.
pub told : {A : Type 0} {r : ℕ} → (r ≡ 0) ⊎ A → (r ≡ 0 → ⊥) → A
told (inl z) other = absurd (other z)
told (inr a) other = a

-- The codes that are listed.
bound_of : (b : ℕ) → (b ≡ 0 → ⊥) → b ≤ 2 → (k : Bound) × (lookup bounds b ≡ some k)
bound_of b other few = go (dec_le b 1)
  where
    go : Dec (b ≤ 1) → (k : Bound) × (lookup bounds b ≡ some k)
    go (yes h) = let e : b ≡ 1 = omega arith in (at_least, rw e refl)
    go (no f) = let e : b ≡ 2 = omega arith in (at_most, rw e refl)

operator-of : (o : ℕ) → o ≤ 2 → (k : Operator) × (lookup operators o ≡ some k)
operator-of o few = go (dec_le o 0) (dec_le o 1)
  where
    go : Dec (o ≤ 0) → Dec (o ≤ 1) → (k : Operator) × (lookup operators o ≡ some k)
    go (yes h) d = let e : o ≡ 0 = omega arith in (and, rw e refl)
    go (no f) (yes h) = let e : o ≡ 1 = omega arith in (or, rw e refl)
    go (no f) (no g) = let e : o ≡ 2 = omega arith in (and_not, rw e refl)

code-there : {K : Type 0} (table : List (ℕ × K)) (s : List ℕ) (at : ℕ) {k : K} → at + 1 ≤ length s → lookup table (get_or s at 0) ≡ some k →
    got k (at + 1) ≡ decode_code table s at
unfolding decode_code
code-there table s at h l = rw (← byte-there s at h, l) refl

pub name_ends : (s : List ℕ) (at n : ℕ) → n ≡ get_or s at 0 → get_or s (at + 1) 0 ≡ 0 → (n ≡ 0 → ⊥) → n ≤ 255 → at + 2 + n ≤ length s →
    EndsAt decode_name s at (at + 2 + n)
unfolding ends decode_name
name_ends s at n low high some_bytes few h =
    let e : n ≡ get_or s at 0 + 256 * get_or s (at + 1) 0 = omega arith in
    (rw (← word-there s at (omega arith), ← e, ne_eqb n 0 some_bytes, le-leb n 255 few, ← run-there s (at + 2) n h) refl, h)

pub limit-passes : (s : List ℕ) (at : ℕ) {r : ℕ} → at + 5 ≤ length s → (get_or s (at + 4) 0 ≡ 0 → ⊥) → get_or s (at + 4) 0 ≤ 2 →
    Passes decode_name s (at + 5) r → Passes (decode_node_of is_limit) s at r
unfolding ends
limit-passes s at h other few (inl z) = inl z
limit-passes s at h other few (inr e) =
    let behind : at + 4 + 1 ≡ at + 5 = omega arith in
    let bound = code-there bounds s (at + 4) (omega arith) (bound_of (get_or s (at + 4) 0) other few).1 in
    inr (rw (← dword-there s at (omega arith), ← bound, behind, ← (ended-got (decode_name s (at + 5)) (sym e.0)).1) refl, e.1)

-- A node ends where what stands after its first byte does.
pub node-passes : (k : QueryCase) (s : List ℕ) (at : ℕ) {r : ℕ} → at + 1 ≤ length s → lookup query_cases (get_or s at 0) ≡ some k →
    Passes (decode_node_of k) s (at + 1) r → Passes decode_node s at r
unfolding decode_node ends
node-passes k s at h l (inl z) = inl z
node-passes k s at h l (inr e) = inr (rw (← code-there query_cases s at h l) e.0, e.1)

-- Keywords and fields begin with a text.
module _ (s : List ℕ) (at n : ℕ) (e : n ≡ get_or s (at + 1) 0 + 256 * get_or s (at + 2) 0) (h : at + 3 + n ≤ length s) where
  text-there : got (bytes_at s (at + 3) n) (at + 3 + n) ≡ decode_string s (at + 1)
  unfolding decode_string
  text-there =
      let second : at + 1 + 1 ≡ at + 2 = omega arith in
      let behind : at + 1 + 2 ≡ at + 3 = omega arith in
      rw (← word-there s (at + 1) (omega arith), second, ← e, behind, ← run-there s (at + 3) n h) refl

  pub keyword-passes : get_or s at 0 ≡ 1 → Passes decode_node s at (at + 3 + n)
  unfolding ends
  keyword-passes is = node-passes is_keyword s at (omega arith) (rw is refl) (inr (rw (← text-there) refl, h))

  pub field-passes : get_or s at 0 ≡ 2 → {r : ℕ} → Passes decode_name s (at + 3 + n) r → Passes decode_node s at r
  unfolding ends
  field-passes is (inl z) = inl z
  field-passes is (inr f) =
      node-passes is_field s at (omega arith) (rw is refl)
      (inr (rw (← text-there, ← (ended-got (decode_name s (at + 3 + n)) (sym f.0)).1) refl, f.1))

-- The extent of a leaf, and of a query that is a join.
module _ (left : ℕ) (deep : left ≡ 0 → ⊥) (s : List ℕ) (at : ℕ) (h : at + 1 ≤ length s) {r : ℕ} where
  pub leaf-spans : {end : ℕ} → (get_or s at 0 ≡ 0 → ⊥) → EndsAt decode_node s at end → (end_in r ≡ end) × (depth_in r ≡ 1) →
      Spans (depths (decode_query_in left s at)) r
  unfolding decode_leaf
  leaf-spans other e is =
      inr (depth_leaf left deep s at (byte-there s at h) other ∙ rw (← (ended-got (decode_node s at) (sym e.0)).1, is.0, is.1) refl)

  pub join-spans : get_or s at 0 ≡ 0 → Spans (depths (decode_case (decode_query_in (left - 1)) is_join s (at + 1))) r →
      Spans (depths (decode_query_in left s at)) r
  join-spans is e = rw (query_case left deep s at, ← code-there query_cases s at {k = is_join} h (rw is refl)) e

-- What the extents of the two sides make of the join's.
pub sides-span : (d : ℕ) (s : List ℕ) (at a b : ℕ) {r : ℕ} → at + 1 ≤ length s → get_or s at 0 ≤ 2 →
    depths (decode_query_in d s (at + 1)) ≡ got (depth_in a) (end_in a) → depths (decode_query_in d s (end_in a)) ≡ got (depth_in b) (end_in b) →
    (end_in r ≡ end_in b) × (depth_in r ≡ max (depth_in a) (depth_in b) + 1) → Spans (depths (decode_case (decode_query_in d) is_join s at)) r
sides-span d s at a b h few first second is =
    let o = code-there operators s at h (operator-of (get_or s at 0) few).1 in
    inr (rw (depth_join, ← o, first, second, is.0, is.1) refl)

-- The offset after a query, by its extent, by what was read of it, and where it is not 0.
pub span_after : (o : Outcome Query) {n p : ℕ} → depths o ≡ got n p → p ≡ offset_after o
unfolding depths
span_after (refused f) e = absurd (never e)
span_after (got q p) e = sym (same_place e)

pub depths_after : (o : Outcome Query) → offset_after (depths o) ≡ offset_after o
unfolding depths
depths_after (refused f) = refl
depths_after (got q p) = refl

pub after-ends : {A : Type 0} (o : Outcome A) {r : ℕ} → r ≡ offset_after o → (r ≡ 0 → ⊥) → ends o ≡ got tt r
unfolding ends
after-ends (refused f) is other = absurd (other is)
after-ends (got a p) is other = ap (got tt) (sym is)
