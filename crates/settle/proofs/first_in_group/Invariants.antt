-- The loop's invariant: no block lies past the last group's, and the row of blocks from here goes as the group's
-- scan (`Same` of Scans.antt, with its turns). Assumes nothing.
use Rattle.std.proofs.Common.{◌-◌, ◌≤◌}
use Rattle.settle.specs.Scanning.{row_from, in_block, in_group}
use Rattle.settle.proofs.Scans.{Same}
use Rattle.settle.proofs.first_in_group.Given as goal

abbrev pub invariant-loop-b : goal.invariant-loop-b
invariant-loop-b l = record {
  few : l.end ≤ 2048;
  same : Same (row_from 0 (in_block l.h l.pool) (l.end - l.b) l.b l.awake) (in_group l.h l.pool l.g l.fn.awake);
}
