-- The loop's invariant: the steps taken are at most the budget, and what is left to do from here is what was left from the start (`Turn` of
-- SettleTurns.antt). The measure is what is left of the budget, one less each turn. Assumes nothing.
use Rattle.std.proofs.Common.{◌-◌, ◌≤◌}
use Rattle.settle.specs.Settling.{pool_of}
use Rattle.settle.proofs.SettleTurns.{Turn}
use Rattle.settle.proofs.settle_from.Given as goal

abbrev pub invariant-loop-step : goal.invariant-loop-step
invariant-loop-step l = record {
  within : l.taken ≤ l.budget;
  turns : Turn l.fn.h l.budget l.fn.pool l.fn.awake l.taken (pool_of l.h l.pool l.awake);
}

abbrev pub decreases-loop-step : goal.decreases-loop-step
decreases-loop-step l = l.budget - l.taken
