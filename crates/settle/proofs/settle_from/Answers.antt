-- A turn of the loop: the step that is taken is the one that `Turn` says comes next. Assumes nothing.
use Rattle.std.proofs.Common.{◌∙◌, arith}
use Rattle.settle.proofs.SettleTurns.{turn}
use Rattle.settle.proofs.settle_from.Goals as goal

pub loop-step-preserved : goal.loop-step-preserved
loop-step-preserved c = record {
  within = omega arith;
  turns = turn _ _ _ _ _ _ c.loop-step.invariant.turns c.first_awake.ensures.found _ c.in-Some.is (omega arith) c.take_step.ensures.header c.take_step.ensures.pool
      (c.wake_around.ensures ∙ rw c.first_awake.ensures.awake);
}
