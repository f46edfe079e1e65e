-- A turn of the loop: another group follows. Assumes nothing.
use Rattle.numbers.proofs.Ahead.{ahead}
use Rattle.numbers.proofs.further.Goals as goal

pub loop-i-preserved : goal.loop-i-preserved
loop-i-preserved c =
    let there = rw c.in_ok-byte.was at c.byte_at.ensures.ok in
    ahead c.loop-i.invariant c.loop-i-test.true there.0 there.1 c.if-byte-lt-GROUP.false there.2
