-- The loop's invariant, `Chaining`: with the slots from s on chained too, all are. Assumes nothing.
use Rattle.load.proofs.Chaining.{Chaining}
use Rattle.load.proofs.chain_up.Given as goal

abbrev pub invariant-loop-s : goal.invariant-loop-s
invariant-loop-s l = Chaining l.fn.pool l.pool l.first l.last l.s
