-- Bytes that were judged good, for a pool of their C. Assumes nothing.
use Rattle.std.proofs.Common.{sym}
use Rattle.load.proofs.Filling.{load_filled}
use Rattle.load.proofs.load.Goals as goal

pub returns-clause-answer : goal.returns-clause-answer
returns-clause-answer c =
    (load_filled c.in-Some.ensures _ (sym c.if-not-length_good.ensures) c.last_slot.ensures c.if-said-last_slot.false c.build_all.ensures).0

pub returns-clause-pool : goal.returns-clause-pool
returns-clause-pool c =
    (load_filled c.in-Some.ensures _ (sym c.if-not-length_good.ensures) c.last_slot.ensures c.if-said-last_slot.false c.build_all.ensures).1
