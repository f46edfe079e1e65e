-- Law 6: the excess weight, the report's third number, is the paper's o(T), the number of overweight conflicts in the tree
-- (`excess_as_paper`).
-- Why: the paper adds up at each node what its child edges weigh above 1, and each edge is a child edge of one node. Assumes nothing.
use mathlib.Core.Path.{◌≡◌, refl}
use native.Mathlib.Omega.{arith}
use Rattle.tree.specs.Tree.{Tree, leaf, node}
use Rattle.tree.specs.Distances.{excess_weight}
use Rattle.paper.specs.Paper.{overweight_at, overweight_in}
use Rattle.paper.specs.Ours.{forget}

pub excess_as_paper : (t : Tree) → excess_weight t ≡ overweight_in (forget t)
unfolding excess_weight overweight_in overweight_at forget
excess_as_paper (leaf s k) = refl
excess_as_paper (node s k wl l wr r) = omega (arith, excess_as_paper l, excess_as_paper r)
