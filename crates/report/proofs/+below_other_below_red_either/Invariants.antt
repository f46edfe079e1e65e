-- A child is passed on with `left` less 1, and `left` is not 0, since the tree that stands there is at most `left` nodes deep: so the measure is twice
-- `left`, and one more for `either`, which calls the two with its own `left`.
use Rattle.std.proofs.Common.{◌+◌, ◌*◌}
use Rattle.report.proofs.+below_other_below_red_either.Given as goal

abbrev pub decreases-below_other : goal.decreases-below_other
decreases-below_other l = 2 * l.left

abbrev pub decreases-below_red : goal.decreases-below_red
decreases-below_red l = 2 * l.left

abbrev pub decreases-either : goal.decreases-either
decreases-either l = 2 * l.left + 1
