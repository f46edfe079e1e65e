use Rattle.load.proofs.Filling.{build_tree}
use Rattle.load.proofs.build_top.Goals as goal

pub returns : goal.returns
returns c = build_tree _ _ _ c.if-n-eq0.false c.build.ensures
