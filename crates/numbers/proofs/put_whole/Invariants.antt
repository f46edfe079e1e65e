-- `numbers::put_whole` meets its contract. The loop's invariant, `Placing`: with what is left of the number written after the n bytes, all is
-- written. The measure is how many bytes may follow. Assumes nothing.
use Prim.Native.Nat.{◌-◌}
use Rattle.numbers.proofs.Putting.{Placing}
use Rattle.numbers.proofs.put_whole.Given as goal

abbrev pub invariant-loop-n : goal.invariant-loop-n
invariant-loop-n l = Placing l.fn.out l.out l.at l.v l.left l.n

abbrev pub decreases-loop-n : goal.decreases-loop-n
decreases-loop-n l = 4 - l.n
