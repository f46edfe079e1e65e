-- The measure is the allowance of depth, `left`, which both calls lower by one.
use Rattle.load.proofs.+build.Given as goal

abbrev pub decreases-build : goal.decreases-build
decreases-build l = l.left
