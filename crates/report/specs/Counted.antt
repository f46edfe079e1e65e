-- What the report's two walks down a tree ask for and answer: R and Q by below_red and below_other, excess weight and D by over.
-- Only private functions cite this page; it serves RULES 6.6.
use Rattle.std.specs.Prelude.{◌≡◌, List, ℕ, pred, ◌+◌, ◌*◌, ◌≤◌, ◌<◌, ◌^◌}
use Rattle.tree.specs.Tree.{Tree, size}
use Rattle.tree.specs.Distances.{outside, if_red, for_red, conflicts, red_distance, over_distance, excess_weight}
use Rattle.pool.specs.Standing.{Standing}
use Rattle.report.specs.declared.Counted.{Counted}

abbrev pub counted : ℕ → ℕ → ℕ → Counted
counted m x d = record { nodes = m; number = x; distance = d }

-- a leaf by itself, of which nothing is counted
abbrev pub lone_leaf : Counted
lone_leaf = counted 1 0 0

-- a node over two subtrees
abbrev pub joined : Counted → Counted → Counted
joined a b = counted (1 + a.nodes + b.nodes) (a.number + b.number) (a.distance + b.distance)

-- `number` things more, their distances added up to `distance`
abbrev pub adding : Counted → ℕ → ℕ → Counted
adding t number distance = counted t.nodes (number + t.number) (distance + t.distance)

-- What is counted of a tree t that hangs from an edge of weight w, in a tree of n nodes. The red walk: the conflicts in t and those whose
-- upper edge is the one that t hangs from. The other: what the edges in t and that edge weigh above 1. So an edge of weight 1 adds nothing.
unfoldable pub reds_in : ℕ → ℕ → Tree → Counted
reds_in n w t = counted (size t) (if_red w (for_red 1 t) + conflicts t) (if_red w (for_red (outside n t) t) + red_distance n t)

unfoldable pub overs_in : ℕ → ℕ → Tree → Counted
overs_in n w t = counted (size t) (pred w + excess_weight t) (pred w * outside n t + over_distance n t)

-- r is what f counts of whatever tree stands at slot s
abbrev pub Counts : (ℕ → Tree → Counted) → List ℕ → ℕ → ℕ → ℕ → Counted → Type 0
Counts f p s n left r = (S : Standing p s n left) → r ≡ f S.weight S.tree

-- No sum of two such numbers wraps ..
abbrev pub most : ℕ
most = 2 ^ 60

pub record Small (a : Counted) : Type 0 where
  pub nodes_small : a.nodes ≤ most
  pub number_small : a.number ≤ most
  pub distance_small : a.distance ≤ most

-- .. nor that of these.
pub record Fits (t : Counted) (number distance : ℕ) : Type 0 where
  pub number_fits : number + t.number < 2 ^ 64
  pub distance_fits : distance + t.distance < 2 ^ 64
