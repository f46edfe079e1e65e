-- `lowest_unmarked` meets its contract. The loop's invariant: the lowest from here is the lowest from attempt 1 on. Assumes nothing.
use mathlib.Core.Path.{◌≡◌}
use Prim.Native.Nat.{◌+◌, ◌-◌, ◌≤◌}
use Rattle.ledger.specs.Ledger.{lowest_from}
use Rattle.ledger.proofs.lowest_unmarked.Given as goal

abbrev pub invariant-loop-attempt : goal.invariant-loop-attempt
invariant-loop-attempt l =
    (l.attempt ≤ l.limit + 1) × (lowest_from l.limit 1 l.first l.pool ≡ lowest_from (l.limit + 1 - l.attempt) l.attempt l.first l.pool)
