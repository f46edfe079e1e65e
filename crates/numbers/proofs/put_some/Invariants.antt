-- `numbers::put_some` meets its contract. The loop's invariant, `Putting`: with what is left of the number written from place i on, all
-- is written. The measure is what is left of the room. Assumes nothing.
use Prim.Native.Nat.{◌-◌}
use lib.ListN.{length}
use lib.Seq.{sets}
use Rattle.numbers.specs.Shortest.{bytes_of}
use Rattle.numbers.proofs.Putting.{Putting}
use Rattle.numbers.proofs.put_some.Given as goal

abbrev pub invariant-loop-i : goal.invariant-loop-i
invariant-loop-i l = Putting l.fn.out (sets l.fn.out l.at (bytes_of l.v)) l.out l.left l.i

abbrev pub decreases-loop-i : goal.decreases-loop-i
decreases-loop-i l = length l.out - l.i
