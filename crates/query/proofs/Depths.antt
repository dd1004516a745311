-- The depth of a query: that of a leaf, what the sides make of a join's, and that it is within what the decoder was given.
use Prim.Native.Nat.{ℕ, zero, suc, max, ◌+◌, ◌-◌, ◌≤◌}
use mathlib.Core.Path.{◌≡◌, refl, sym, ◌∙◌}
use mathlib.Core.Bool.{Bool, true, false}
use mathlib.Core.Option.{none, some}
use mathlib.Core.List.{List}
use native.Mathlib.Omega.{arith}
use native.Mathlib.Numerals.{add-one}
use lib.Dec.{eqb}
use borrow.Author.Tests.{ne_eqb}
use Rattle.format.specs.Tables.{pick, lookup}
use Rattle.format.specs.Messages as messages
use Rattle.format.specs.Messages.{Operator, Query}
use Rattle.format.specs.Rules.{depth}
use Rattle.format.specs.Decoding.{Fault, Outcome, refused, got, and_then, Decoder, ◌>>=◌, pure, choice, settled, found}
use Rattle.format.specs.Order.{decode_code, decode_string, decode_name, decode_dword, operators, bounds, decode_byte, decode_case, decode_query_in}
use Rattle.format.specs.Order.{is_join, is_keyword, is_field, is_limit, query_cases}
use Rattle.format.proofs.Codec.{never, same-value, went}
use Rattle.query.specs.Nodes.{Node, join, keyword, field, limit, decode_node_of, decode_node, decode_leaf, decode_sides, depths}
use Rattle.query.specs.QueryAnswers.{query_of}
use Rattle.query.proofs.Nodes.{query-node, query-left}

-- A query whose first byte is not 0 is a leaf.
module _ (side : Decoder Query) (s : List ℕ) where
  abbrev Leaf : Outcome Node → Type 0
  Leaf o = depths (and_then s o (decode_sides side)) ≡ and_then s o (λ n. pure 1)

  leaf-then : {A : Type 0} (o : Outcome A) (g : A → Decoder Node) → ((a : A) (p : ℕ) → Leaf (g a s p)) → Leaf (and_then s o g)
  unfolding depths
  leaf-then (refused f) g h = refl
  leaf-then (got a p) g h = h a p

  leaf-keyword : (at : ℕ) → Leaf (decode_node_of is_keyword s at)
  unfolding depths depth
  leaf-keyword at = leaf-then (decode_string s at) _ (λ t p. refl)

  leaf-field : (at : ℕ) → Leaf (decode_node_of is_field s at)
  unfolding depths depth
  leaf-field at = leaf-then (decode_string s at) _ (λ t p. leaf-then (decode_name s p) _ (λ n q. refl))

  leaf-limit : (at : ℕ) → Leaf (decode_node_of is_limit s at)
  unfolding depths depth
  leaf-limit at =
      leaf-then (decode_dword s at) _
      (λ v p. leaf-then (decode_code bounds s p) _ (λ b q. leaf-then (decode_name s q) _ (λ n r. refl)))

  leaf-code : (at next code : ℕ) → (code ≡ 0 → ⊥) → Leaf (and_then s (settled at 1 (found choice (lookup query_cases code)) next) decode_node_of)
  unfolding depths
  leaf-code at next code other = rw (ne_eqb code 0 other) (go (eqb code 1) (eqb code 2) (eqb code 3))
    where
      go : (a b c : Bool) →
          Leaf (and_then s (settled at 1 (found choice (pick a (some is_keyword) (pick b (some is_field) (pick c (some is_limit) none)))) next) decode_node_of)
      go true b c = leaf-keyword next
      go false true c = leaf-field next
      go false false true = leaf-limit next
      go false false false = refl

pub depth_leaf : (left : ℕ) → (left ≡ 0 → ⊥) → (s : List ℕ) (at : ℕ) {code next : ℕ} → got code next ≡ decode_byte s at → (code ≡ 0 → ⊥) →
    depths (decode_query_in left s at) ≡ decode_leaf s at
unfolding decode_leaf decode_node decode_code
depth_leaf left deep s at {code} {next} e other = rw (query-left left deep s at, ← e) (leaf-code (decode_query_in (left - 1)) s at next code other)

-- The depth of a join is one more than that of its deeper side.
abbrev depth_in : ℕ → Decoder ℕ
depth_in d = λ s at. depths (decode_query_in d s at)

abbrev pub join_depth : ℕ → Decoder ℕ
join_depth d = do
  o ← decode_code operators
  m ← depth_in d
  n ← depth_in d
  pure (max m n + 1)

second-side : (o : Operator) (q : Query) (s : List ℕ) (b : Outcome Query) →
    depths (and_then s b (λ r. pure (messages.join o q r))) ≡ and_then s (depths b) (λ n. pure (max (depth q) n + 1))
unfolding depths depth
second-side o q s (refused f) = refl
second-side o q s (got r p) = rw add-one refl

first-side : (o : Operator) (side : Decoder Query) (s : List ℕ) (a : Outcome Query) →
    depths (and_then s a (λ q s at. and_then s (side s at) (λ r. pure (messages.join o q r))))
    ≡ and_then s (depths a) (λ m s at. and_then s (depths (side s at)) (λ n. pure (max m n + 1)))
unfolding depths
first-side o side s (refused f) = refl
first-side o side s (got q p) = second-side o q s (side s p)

pub depth_join : (d : ℕ) (s : List ℕ) (at : ℕ) → depths (decode_case (decode_query_in d) is_join s at) ≡ join_depth d s at
unfolding depths
depth_join d s at = go (decode_code operators s at)
  where
    go : (c : Outcome Operator) →
        depths (and_then s c (λ o s at. and_then s (decode_query_in d s at) (λ q s at. and_then s (decode_query_in d s at) (λ r. pure (messages.join o q r)))))
        ≡ and_then s c (λ o s at. and_then s (depth_in d s at) (λ m s at. and_then s (depth_in d s at) (λ n. pure (max m n + 1))))
    go (refused f) = refl
    go (got o p) = first-side o (decode_query_in d) s (decode_query_in d s p)

-- A query that was decoded has at most the depth that it was given.
abbrev Within : ℕ → List ℕ → Decoder Query → Type 0
Within d s side = (at : ℕ) (q : Query) (next : ℕ) → side s at ≡ got q next → depth q ≤ d

within-node : {d : ℕ} {s : List ℕ} (side : Decoder Query) → Within d s side → (n : Node) → Within (suc d) s (decode_sides side n)
unfolding depth
within-node {d} {s} side h (join o) at q next e =
    let w = went s (side s at) e in
    let v = went s (side s w.mid) w.then in
    rw (← same-value v.then) (omega (arith, h at _ _ w.was, h w.mid _ _ v.was))
within-node side h (keyword t) at q next e = rw (← same-value e) (omega arith)
within-node side h (field t n) at q next e = rw (← same-value e) (omega arith)
within-node side h (limit v b n) at q next e = rw (← same-value e) (omega arith)

within_none : (s : List ℕ) → Within 0 s (decode_query_in 0)
unfolding decode_query_in
within_none s at q next e = absurd (never e)

within-query : (d : ℕ) (s : List ℕ) → Within d s (decode_query_in d)
within-query zero s at q next e = within_none s at q next e
within-query (suc d) s at q next e =
    let w = went s (decode_node s at) (sym (query-node d s at) ∙ e) in
    within-node (decode_query_in d) (within-query d s) w.first w.mid q next w.then

depths-got : (o : Outcome Query) {n p : ℕ} → depths o ≡ got n p → (o ≡ got (query_of o) p) × (depth (query_of o) ≡ n)
unfolding depths
depths-got (refused f) e = absurd (never e)
depths-got (got q p) e = (cc, cc)

pub depths_query : (o : Outcome Query) {n p : ℕ} → depths o ≡ got n p → got (query_of o) p ≡ o
depths_query o e = sym (depths-got o e).0

pub depths_refused : (o : Outcome Query) {f : Fault} → refused f ≡ depths o → refused f ≡ o
unfolding depths
depths_refused (refused g) e = cc
depths_refused (got q p) e = absurd (never e)

pub within_depths : (d : ℕ) (s : List ℕ) (at : ℕ) {n next : ℕ} → depths (decode_query_in d s at) ≡ got n next → n ≤ d
within_depths d s at e =
    let g = depths-got (decode_query_in d s at) e in
    omega (arith, g.1, within-query d s at _ _ g.0)
