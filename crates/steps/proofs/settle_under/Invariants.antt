-- The loop's invariant: the steps taken are at most the budget, and what is left to do from here is what was left from the start (`Turn` of
-- SettleTurns.antt). The measure is what is left of the budget, one less each turn. Assumes nothing.
use Rattle.std.proofs.Common.{◌-◌, ◌≤◌}
use Rattle.steps.specs.Steps.{pool_of}
use Rattle.steps.proofs.SettleTurns.{Turn}
use Rattle.steps.proofs.settle_under.Given as goal

abbrev pub invariant-loop-step : goal.invariant-loop-step
invariant-loop-step l = record {
  within : l.taken ≤ l.budget;
  turns : Turn l.fn.h l.budget l.fn.pool l.taken (pool_of l.h l.pool);
}

abbrev pub decreases-loop-step : goal.decreases-loop-step
decreases-loop-step l = l.budget - l.taken
