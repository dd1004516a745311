-- A query calls for its operator with the same depth left, an operator for each side with one less: the measures are twice the depth that
-- is left, and one more for the query.
use Rattle.std.proofs.Common.{◌*◌, ◌+◌}
use Rattle.query.proofs.+read_operator_read_query_in.Given as goal

abbrev pub decreases-read_operator : goal.decreases-read_operator
decreases-read_operator l = 2 * l.left

abbrev pub decreases-read_query_in : goal.decreases-read_query_in
decreases-read_query_in l = 2 * l.left + 1
