-- A turn of the loop: the step that is taken is the one that `Turn` says comes next. Assumes nothing.
use Rattle.std.proofs.Common.{arith}
use Rattle.steps.proofs.SettleTurns.{turn}
use Rattle.steps.proofs.settle_under.Goals as goal

pub loop-step-preserved : goal.loop-step-preserved
loop-step-preserved c = record {
  within = omega arith;
  turns = turn _ _ _ _ _ c.loop-step.invariant.turns c.first_allowed.ensures _ c.in-Some.is (omega arith) c.take_step.ensures.header c.take_step.ensures.pool;
}
