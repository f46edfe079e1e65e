-- `clear_from` meets its contract. The loop's invariant, `Turn`: what has gone and what is yet to go are all that goes. The measure is how many
-- of the notice's keys are left, from `next` on. Assumes nothing.
use mathlib.Core.Path.{◌≡◌}
use Prim.Native.Nat.{◌+◌, ◌-◌}
use lib.ListN.{length}
use Rattle.ledger.specs.Ledger.{notice_keys, cleared_from}
use Rattle.ledger.proofs.Cleared.{Turn}
use Rattle.ledger.proofs.clear_from.Given as goal

abbrev pub invariant-loop-next : goal.invariant-loop-next
invariant-loop-next l =
    (length l.pool ≡ length l.fn.pool) × Turn (cleared_from notice_keys l.first l.fn.pool) l.first l.next l.count l.pool

abbrev pub decreases-loop-next : goal.decreases-loop-next
decreases-loop-next l = l.first + notice_keys - l.next
