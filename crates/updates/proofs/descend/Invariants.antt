-- `descend` meets its contract. The loop's invariant: the way from here, as many slots down as turns are left, is the way from the root
-- (`descend_ends` and `descend_on` of Ways.antt are its turns). Assumes nothing.
use Rattle.std.proofs.Common.{◌≡◌, ◌-◌}
use Rattle.updates.specs.Updating.{descend, way_to}
use Rattle.updates.proofs.descend.Given as goal

abbrev pub invariant-loop : goal.invariant-loop
invariant-loop l = way_to l.pool l.root l.key ≡ descend (l.end - l.counter) l.pool l.key l.parent l.s
