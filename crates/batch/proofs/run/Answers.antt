-- After the last command the call leaves what the definition says. Assumes nothing.
use Rattle.std.proofs.Common.{◌∙◌}
use Rattle.batch.proofs.Turns.{turn_ends}
use Rattle.batch.proofs.run.Goals as goal

pub returns-clause-pool : goal.returns-clause-pool
returns-clause-pool c = c.put_header.ensures ∙ (turn_ends c.loop-at.invariant.2 c.loop-at-test.false).0

pub returns-clause-answers : goal.returns-clause-answers
returns-clause-answers c = (turn_ends c.loop-at.invariant.2 c.loop-at-test.false).1
