-- The loop's invariant: the header is the empty State's, and the slots from 1 to below s are chained, each to the next. Assumes nothing.
use Rattle.pool.proofs.Prepares.{Chaining}
use Rattle.pool.proofs.prepare.Given as goal

abbrev pub invariant-loop-s : goal.invariant-loop-s
invariant-loop-s l = Chaining l.pool l.last l.s
