-- The measure is the allowance of depth, `left`, which both calls lower by one.
use Rattle.save.proofs.+put_tree.Given as goal

abbrev pub decreases-put_tree : goal.decreases-put_tree
decreases-put_tree l = l.left
