-- The loop's invariant: the slots before s from here are those from the root (`kin_met`, `kin_on` and `kin_end` of Scans.antt are its turns).
-- Assumes nothing.
use Rattle.std.proofs.Common.{◌≡◌, ◌-◌}
use Rattle.settle.specs.Waking.{kin_from, kin_of}
use Rattle.settle.proofs.kin_of.Given as goal

abbrev pub invariant-loop : goal.invariant-loop
invariant-loop l = kin_of l.pool l.root l.key l.s ≡ kin_from (l.end - l.counter) l.pool l.key l.s l.grand l.parent l.v
