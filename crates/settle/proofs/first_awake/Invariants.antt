-- The loop's invariant: the groups are at most 64, and the row of groups from here goes as the whole scan (`Same` of
-- Scans.antt, with its turns). Assumes nothing.
use Rattle.std.proofs.Common.{◌+◌, ◌-◌, ◌<◌}
use Rattle.settle.specs.Scanning.{row_from, in_group, first_awake}
use Rattle.settle.proofs.Scans.{Same}
use Rattle.settle.proofs.first_awake.Given as goal

abbrev pub invariant-loop-g : goal.invariant-loop-g
invariant-loop-g l = record {
  few : l.last < 64;
  same : Same (row_from 2048 (in_group l.h l.pool) (l.last + 1 - l.g) l.g l.awake) (first_awake l.h l.pool l.fn.awake);
}
