-- The tests are crate tree's. Assumes nothing.
use mathlib.Core.Bool.{xor}
use Rattle.tree.specs.Sights.{parent_sees}
use Rattle.tree.proofs.Tests.{red_test, overweighted_test}
use Rattle.settle.proofs.parent_sees.Goals as goal

pub returns : goal.returns
unfolding parent_sees xor
returns c = let w = c.args.w in let q = c.args.q in rw (red_test w, red_test q, overweighted_test w, overweighted_test q)
