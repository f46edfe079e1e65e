-- The measure is the allowance of depth, `left`, which both calls lower by one.
use Rattle.load.proofs.+judge.Given as goal

abbrev pub decreases-judge : goal.decreases-judge
decreases-judge l = l.left
