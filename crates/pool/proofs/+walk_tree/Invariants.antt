-- The measure is the allowance of depth, `left`, which both calls lower by one.
use Rattle.pool.proofs.+walk_tree.Given as goal

abbrev pub decreases-walk_tree : goal.decreases-walk_tree
decreases-walk_tree l = l.left
