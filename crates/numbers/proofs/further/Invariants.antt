-- `numbers::further` meets its contract. The loop's invariant, `Ahead`: the number is what stands from place i on, above the groups that were read.
-- After the loop it is the fifth group. Assumes nothing.
use mathlib.Core.Bool.{false}
use Rattle.encoding.specs.Numbers.{groups, below}
use Rattle.numbers.proofs.Ahead.{Ahead}
use Rattle.numbers.proofs.further.Given as goal

abbrev pub invariant-loop-i : goal.invariant-loop-i
invariant-loop-i l = Ahead l.bytes (below l.low (groups 3 false l.bytes l.from)) l.value l.unit l.last l.i
