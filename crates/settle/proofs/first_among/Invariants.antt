-- The invariant of the scan: the first step from here is the first one from the start. Assumes nothing.
use Rattle.std.proofs.Common.{◌≡◌, ◌-◌}
use Rattle.settle.specs.Scanning.{first_from}
use Rattle.settle.proofs.first_among.Given as goal

abbrev pub invariant-loop-slot : goal.invariant-loop-slot
invariant-loop-slot l = first_from (l.to - l.slot) l.h l.pool l.slot ≡ first_from (l.to - l.from) l.h l.pool l.from
