-- The last slot. Assumes nothing.
use Rattle.std.proofs.Common.{arith}
use Rattle.load.proofs.Chaining.{chain_done, chain_next}
use Rattle.load.proofs.chain_up.Goals as goal

pub returns-2 : goal.returns-2
returns-2 c = chain_done (chain_next c.loop-s.invariant (omega arith) c.next_free.ensures c.free_slot.ensures c.put_slot.ensures) (omega arith)
