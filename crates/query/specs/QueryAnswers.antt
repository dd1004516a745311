-- What each answer of the code stands for, as an outcome of the format's decoding.
use Rattle.std.specs.Prelude.{ℕ, ◌≡◌, List, [], Result}
use Rattle.format.specs.Messages as messages
use Rattle.format.specs.Decoding.{Outcome, refused, got, Reply}
use Rattle.format.specs.Order.{decode_query}
use Rattle.wire.specs.declared.Rule.{Rule}
use Rattle.wire.specs.WireAnswers.{Step, step_meaning, OfStep, reply_meaning, OfReply, number_meaning, place_bytes, PlaceInside}
use Rattle.query.specs.Nodes as nodes
use Rattle.query.specs.Nodes.{depths}
use Rattle.query.specs.declared.Operator.{Operator}
use Rattle.query.specs.declared.Bound.{Bound}
use Rattle.query.specs.declared.Node.{Node}
use Rattle.query.specs.declared.Query.{Query}

abbrev pub operator_of : Operator → messages.Operator
operator_of Operator.And = messages.and
operator_of Operator.Or = messages.or
operator_of Operator.AndNot = messages.and_not

abbrev pub operator_meaning : Step Operator → Outcome messages.Operator
operator_meaning = step_meaning operator_of

abbrev pub bound_of : Bound → messages.Bound
bound_of Bound.AtLeast = messages.at_least
bound_of Bound.AtMost = messages.at_most

abbrev pub bound_meaning : Step Bound → Outcome messages.Bound
bound_meaning = step_meaning bound_of

abbrev pub node_in : List ℕ → Node → nodes.Node
node_in s (Node.Join o) = nodes.join (operator_of o)
node_in s (Node.Keyword t) = nodes.keyword (place_bytes s t)
node_in s (Node.Field t n) = nodes.field (place_bytes s t) (place_bytes s n)
node_in s (Node.Limit v b n) = nodes.limit v (bound_of b) (place_bytes s n)

abbrev pub node_meaning : List ℕ → Step Node → Outcome nodes.Node
node_meaning s = step_meaning (node_in s)

-- The text and the name of a node lie wholly inside the bytes.
abbrev pub NodeInside : List ℕ → Node → Type 0
NodeInside s (Node.Join o) = Unit {0}
NodeInside s (Node.Keyword t) = PlaceInside s t
NodeInside s (Node.Field t n) = PlaceInside s t × PlaceInside s n
NodeInside s (Node.Limit v b n) = PlaceInside s n

abbrev pub NodeStepInside : List ℕ → Step Node → Type 0
NodeStepInside s = OfStep (NodeInside s)

abbrev pub depth_meaning : Step ℕ → Outcome ℕ
depth_meaning = number_meaning

-- A place stands for the query that is decoded there. Since a place with no query would then pass for a keyword, contracts also
-- say that one lies there, with its depth and its end.
abbrev pub query_of : Outcome messages.Query → messages.Query
query_of (refused f) = messages.keyword []
query_of (got q next) = q

abbrev pub query_in : List ℕ → Query → messages.Query
query_in s q = query_of (decode_query s q.at)

abbrev pub QueryPlaced : List ℕ → Query → Type 0
QueryPlaced s q = depths (decode_query s q.at) ≡ got q.depth q.end

abbrev pub query_meaning : List ℕ → Step Query → Outcome messages.Query
query_meaning s = step_meaning (query_in s)

abbrev pub QueryStepPlaced : List ℕ → Step Query → Type 0
QueryStepPlaced s = OfStep (QueryPlaced s)

-- The lone query.
abbrev pub query_reply : List ℕ → Result Query Rule → Reply messages.Query
query_reply s = reply_meaning (query_in s)

abbrev pub QueryAnswerPlaced : List ℕ → Result Query Rule → Type 0
QueryAnswerPlaced s = OfReply (QueryPlaced s)
