-- A query is its first node and, after a join, its two sides.
use Prim.Native.Nat.{ℕ, suc, ◌-◌}
use mathlib.Core.Path.{◌≡◌, sym, ap, ◌∙◌}
use mathlib.Core.List.{List}
use native.Mathlib.Omega.{arith}
use Rattle.format.specs.Messages.{Query}
use Rattle.format.specs.Decoding.{and_then, Decoder}
use Rattle.format.specs.Order.{QueryCase, is_join, is_keyword, is_field, is_limit, decode_code, query_cases, decode_case, decode_query_in}
use Rattle.format.proofs.Codec.{regroup, and_then-same}
use Rattle.query.specs.Nodes.{decode_node_of, decode_node, decode_sides}

case-node : (side : Decoder Query) (c : QueryCase) (s : List ℕ) (at : ℕ) →
    decode_case side c s at ≡ and_then s (decode_node_of c s at) (decode_sides side)
case-node side is_join s at = simp regroup
case-node side is_keyword s at = simp regroup
case-node side is_field s at = simp regroup
case-node side is_limit s at = simp regroup

pub query-node : (d : ℕ) (s : List ℕ) (at : ℕ) → decode_query_in (suc d) s at ≡ and_then s (decode_node s at) (decode_sides (decode_query_in d))
unfolding decode_query_in decode_node
query-node d s at =
    and_then-same s (decode_code query_cases s at) _ _ (λ c at. case-node (decode_query_in d) c s at)
    ∙ sym (regroup s (decode_code query_cases s at) decode_node_of (decode_sides (decode_query_in d)))

-- The same for code that counts the depth that is left: by the case that the first byte tells, and by the first node.
module _ (left : ℕ) (deep : left ≡ 0 → ⊥) (s : List ℕ) (at : ℕ) where
  down : left ≡ suc (left - 1)
  down = omega arith

  pub query_case : decode_query_in left s at ≡ and_then s (decode_code query_cases s at) (decode_case (decode_query_in (left - 1)))
  unfolding decode_query_in
  query_case = ap (λ d. decode_query_in d s at) down

  pub query-left : decode_query_in left s at ≡ and_then s (decode_node s at) (decode_sides (decode_query_in (left - 1)))
  query-left = ap (λ d. decode_query_in d s at) down ∙ query-node (left - 1) s at
