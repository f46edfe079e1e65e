-- A tree, and the end after it. Assumes nothing.
use Rattle.std.proofs.Common.{arith}
use Rattle.load.proofs.Judging.{read_ok}
use Rattle.load.proofs.Wholes.{top_whole}
use Rattle.load.proofs.judge_top.Goals as goal

pub returns : goal.returns
returns c =
    top_whole _ _ _ c.if-n-eq0.false (read_ok c.number.ensures c.ok.ensures.value c.in_ok-a.was) (rw c.in_ok-tree.was at c.judge.ensures) (omega arith) (omega arith) (omega arith) (omega arith)
