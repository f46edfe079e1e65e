-- The tests are crate tree's. Assumes nothing.
use mathlib.Core.Bool.{xor}
use Rattle.tree.specs.Sights.{grand_sees}
use Rattle.tree.proofs.Tests.{red_test}
use Rattle.settle.proofs.grand_sees.Goals as goal

pub returns : goal.returns
unfolding grand_sees xor
returns c = rw (red_test c.args.w, red_test c.args.q)
