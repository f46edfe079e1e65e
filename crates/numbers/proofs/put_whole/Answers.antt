-- The first turn, another turn, and the last byte. Assumes nothing.
use Rattle.std.proofs.Common.{arith, refl}
use Rattle.numbers.proofs.Putting.{place_first, place_more, place_last, place_fifth}
use Rattle.numbers.proofs.put_whole.Goals as goal

pub loop-n-init : goal.loop-n-init
loop-n-init c = place_first _ _ _ (omega arith)

pub loop-n-preserved : goal.loop-n-preserved
loop-n-preserved c = place_more c.loop-n.invariant c.loop-n-test.true c.if-left-lt-GROUP.false refl

pub returns-then-left-lt-GROUP-clause-count : goal.returns-then-left-lt-GROUP-clause-count
returns-then-left-lt-GROUP-clause-count c = (place_last c.loop-n.invariant c.if-left-lt-GROUP.true).0

pub returns-clause-count : goal.returns-clause-count
returns-clause-count c = (place_last c.loop-n.invariant (place_fifth c.loop-n.invariant c.loop-n-test.false)).0
