-- The last byte, and no room for more. Assumes nothing.
use Rattle.numbers.proofs.Putting.{put_last, put_ended}
use Rattle.numbers.proofs.put_some.Goals as goal

pub returns-then-left-lt-GROUP : goal.returns-then-left-lt-GROUP
returns-then-left-lt-GROUP c = put_last c.loop-i.invariant c.if-left-lt-GROUP.true

pub returns : goal.returns
returns c = put_ended c.loop-i.invariant c.loop-i-test.false
