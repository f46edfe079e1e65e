-- The loop's invariant: the answer from here on, with as many slots as are left, is the answer of the whole walk. Assumes nothing.
use Rattle.std.proofs.Common.{◌≡◌, ◌-◌}
use Rattle.pool.specs.Visits.{chain_tour}
use Rattle.pool.proofs.walk_chain.Given as goal

abbrev pub invariant-loop : goal.invariant-loop
invariant-loop l = (chain_tour l.n l.pool l.first).answer ≡ (chain_tour (l.n - l.counter) l.pool l.s).answer
