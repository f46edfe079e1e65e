-- The measure is the allowance of depth, `deep`, which both calls lower by one.
use Rattle.spans.proofs.+tally_from.Given as goal

abbrev pub decreases-tally_from : goal.decreases-tally_from
decreases-tally_from l = l.deep
