-- `pool::prepare` meets its contract: the loop chains the slots, and the last one ends the chain. Assumes nothing.
use Rattle.std.proofs.Common.{sym}
use Rattle.format.proofs.Shown.{good_length}
use Rattle.pool.proofs.Prepares.{chaining_first, chaining_more, prepare_refused, prepare_done}
use Rattle.pool.proofs.prepare.Goals as goal

pub returns-then-not-length_good-clause-pool : goal.returns-then-not-length_good-clause-pool
returns-then-not-length_good-clause-pool c = (prepare_refused _ (sym c.if-not-length_good.ensures)).1

pub loop-s-init : goal.loop-s-init
loop-s-init c =
    let length = good_length _ (sym c.if-not-length_good.ensures) in
    rw (c.put_header.ensures, c.slots_in-last.ensures) (chaining_first _ _ length.length_is length.some_slots)

pub loop-s-preserved : goal.loop-s-preserved
loop-s-preserved c = rw (c.put_slot.ensures, c.free_slot.ensures) (chaining_more _ _ _ c.loop-s.invariant c.loop-s-test.true)

pub returns-clause-code : goal.returns-clause-code
returns-clause-code c =
    (prepare_done _ _ _ _ (sym c.if-not-length_good.ensures) c.slots_in-last.ensures c.loop-s.invariant c.loop-s-test.false).0

pub returns-clause-pool : goal.returns-clause-pool
returns-clause-pool c = rw (c.put_slot-2.ensures, c.free_slot-2.ensures)
    (prepare_done _ _ _ _ (sym c.if-not-length_good.ensures) c.slots_in-last.ensures c.loop-s.invariant c.loop-s-test.false).1
