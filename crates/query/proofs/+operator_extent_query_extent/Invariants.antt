-- A query calls for its operator with the same depth left, an operator for each side with one less: the measures are twice the depth that
-- is left, and one more for the query.
use Rattle.std.proofs.Common.{◌*◌, ◌+◌}
use Rattle.query.proofs.+operator_extent_query_extent.Given as goal

abbrev pub decreases-operator_extent : goal.decreases-operator_extent
decreases-operator_extent l = 2 * l.left

abbrev pub decreases-query_extent : goal.decreases-query_extent
decreases-query_extent l = 2 * l.left + 1
