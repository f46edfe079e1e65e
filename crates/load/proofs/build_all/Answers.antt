use Rattle.std.proofs.Common.{arith}
use Rattle.load.proofs.Filling.{build_words}
use Rattle.load.proofs.build_all.Goals as goal

pub returns : goal.returns
returns c = build_words _ _ _ _ _ _ c.build_top.ensures c.chain_up.ensures c.min.ensures c.next_free.ensures (omega arith) c.put_header.ensures
