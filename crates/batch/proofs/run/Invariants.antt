-- `run` meets its contract. The loop's invariant, `Turn`: the commands that are left, run on the pool and the answers of now under the
-- header of now, leave what the call leaves. The measure is how many answer words 256 commands may still fill. Assumes nothing.
use mathlib.Core.Path.{◌≡◌}
use Prim.Native.Nat.{◌-◌, ◌*◌}
use lib.ListN.{length}
use Rattle.encoding.specs.Batch.{most_commands, batch}
use Rattle.batch.proofs.Turns.{Turn}
use Rattle.batch.proofs.run.Given as goal

abbrev pub invariant-loop-at : goal.invariant-loop-at
invariant-loop-at l =
    (length l.pool ≡ length l.fn.pool) × (length l.answers ≡ length l.fn.answers) × Turn l.bytes (batch l.fn.pool l.bytes l.fn.answers) l.h l.pool l.answers l.at l.place

abbrev pub decreases-loop-at : goal.decreases-loop-at
decreases-loop-at l = 2 * most_commands - l.place
