-- A query, taken apart: its first node, and the two sides that follow if the node is a join.
use Rattle.std.specs.Prelude.{List, ℕ}
use Rattle.format.specs.Messages as messages
use Rattle.format.specs.Messages.{Operator, Bound, Query}
use Rattle.format.specs.Rules.{depth}
use Rattle.format.specs.Decoding.{Outcome, refused, got, Decoder, ◌>>=◌, pure}
use Rattle.format.specs.Order.{decode_code, decode_string, decode_name, decode_dword, operators, bounds}
use Rattle.format.specs.Order.{QueryCase, is_join, is_keyword, is_field, is_limit, query_cases}

pub data Node : Type 0 where
  join : Operator → Node
  keyword : (text : List ℕ) → Node
  field : (text name : List ℕ) → Node
  limit : (number : ℕ) → Bound → (name : List ℕ) → Node

abbrev pub decode_node_of : QueryCase → Decoder Node
decode_node_of is_join = do
  o ← decode_code operators
  pure (join o)
decode_node_of is_keyword = do
  t ← decode_string
  pure (keyword t)
decode_node_of is_field = do
  t ← decode_string
  n ← decode_name
  pure (field t n)
decode_node_of is_limit = do
  v ← decode_dword
  b ← decode_code bounds
  n ← decode_name
  pure (limit v b n)

-- The first byte of a query and what stands after it, up to the operator of a join.
unfoldable pub decode_node : Decoder Node
decode_node = do
  c ← decode_code query_cases
  decode_node_of c

-- The query of a node: the sides of a join are decoded after it, a leaf is whole.
abbrev pub decode_sides : Decoder Query → Node → Decoder Query
decode_sides side (join o) = do
  q ← side
  r ← side
  pure (messages.join o q r)
decode_sides side (keyword t) = pure (messages.keyword t)
decode_sides side (field t n) = pure (messages.field t n)
decode_sides side (limit v b n) = pure (messages.limit v b n)

-- The node as a leaf: its depth is 1.
unfoldable pub decode_leaf : Decoder ℕ
decode_leaf = do
  n ← decode_node
  pure 1

-- The depth of a query that was decoded, in place of the query.
unfoldable pub depths : Outcome Query → Outcome ℕ
depths (refused f) = refused f
depths (got q next) = got (depth q) next
