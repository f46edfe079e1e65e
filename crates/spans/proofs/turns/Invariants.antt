-- The loop's invariant: the end of the way from here, as many slots down as turns are left, is that from the root (`turns_end` and `turns_on` of
-- Ways.antt are its turns). Assumes nothing.
use Rattle.std.proofs.Common.{◌≡◌, ◌-◌}
use Rattle.spans.specs.Spanning.{turns, turns_to}
use Rattle.spans.proofs.turns.Given as goal

abbrev pub invariant-loop : goal.invariant-loop
invariant-loop l = turns_to l.pool l.root l.key ≡ turns (l.end - l.counter) l.pool l.key l.t.slot l.t.beside
