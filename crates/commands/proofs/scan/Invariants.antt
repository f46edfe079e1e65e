-- `commands::scan` meets its contract. The loop's invariant, `Scanning`: the commands counted so far, and what is found from place
-- `at` on, make what is found in the whole. The measure is how many commands may still come. Assumes nothing.
use Prim.Native.Nat.{◌-◌}
use Rattle.encoding.specs.Batch.{most_commands}
use Rattle.commands.proofs.Scanning.{Scanning}
use Rattle.commands.proofs.scan.Given as goal

abbrev pub invariant-loop-at : goal.invariant-loop-at
invariant-loop-at l = Scanning l.bytes l.count l.at

abbrev pub decreases-loop-at : goal.decreases-loop-at
decreases-loop-at l = most_commands - l.count
