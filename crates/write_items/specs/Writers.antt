-- What the contracts of the writers cite beside the format.
use Rattle.std.specs.Prelude.{ℕ, List, []}
use Rattle.format.specs.Messages.{Operator, Query, join, keyword}
use Rattle.format.specs.Decoding.{Answer, Outcome, accepted, got, number, refusal, refused}
use Rattle.format.specs.Writing.{Written, unwritten}

-- A write of what lies at places. Where they do not hold what they should, the number is that of their own reading, before all others.
abbrev pub write_there : Outcome (Unit {0}) → List ℕ → Written → Written
write_there (refused f) output w = unwritten (number f.rule) output
write_there (got u next) output w = w

-- The sides of a join, and the query that they are the sides of: read as its places are. A side that is no lone query has its own number,
-- the left one first.
abbrev pub sides_there : Answer Query → Answer Query → Outcome (Unit {0})
sides_there (refusal f) b = refused f
sides_there (accepted q) (refusal f) = refused f
sides_there (accepted q) (accepted r) = got tt 0

abbrev pub join_of : Operator → Answer Query → Answer Query → Query
join_of o (accepted q) (accepted r) = join o q r
join_of o (accepted q) (refusal f) = keyword []
join_of o (refusal f) b = keyword []
