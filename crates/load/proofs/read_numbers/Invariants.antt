-- The loop's invariant: whether the numbers that are left read from place i on is whether all read from `at` on. Assumes nothing.
use Rattle.std.proofs.Common.{◌≡◌, ◌-◌}
use Rattle.saved.specs.Loaded.{numbers_at}
use Rattle.load.specs.Judging.{read_whole}
use Rattle.load.proofs.read_numbers.Given as goal

abbrev pub invariant-loop : goal.invariant-loop
invariant-loop l = read_whole (numbers_at (l.count - l.counter) l.bytes l.i) ≡ read_whole (numbers_at l.count l.bytes l.at)
