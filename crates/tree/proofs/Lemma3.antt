-- Why kinds 2 to 5 ask that v is not red. 01: "Without it, Lemma 3 fails: take a red v, both children of u red with subtrees of S and
-- any number of nodes, and B nodes under v's other child. The number of conflicts stays, and the red-red distance changes by
-- S - 2B - 1, which may be positive." Shown of every such v (`rotated_conflicts`, `rotated_distance`), and of one whole tree whose
-- red-red distance rises by 2 (`lemma_3_fails`): it computes. Assumes nothing.
use mathlib.Core.Path.{◌≡◌, refl}
use mathlib.Core.Bool.{true, false}
use native.Mathlib.Omega.{arith}
use Prim.Native.Nat.{ℕ, suc, ◌+◌, ◌*◌, ◌≤◌}
use Rattle.tree.specs.declared.Kind.TheVariants.{SingleLeft}
use Rattle.tree.specs.Tree.{Tree, leaf, node, size, red, level, Chromatic}
use Rattle.tree.specs.Kinds.{left_red, condition, single_left, effect, holds_at, change_at, condition_at, stepped}
use Rattle.tree.specs.Distances.{outside, if_red, for_red, conflicts, red_distance}

-- A red edge to v, in a tree of n nodes: what that edge and all below it add to R, and to Q.
abbrev red_conflicts : Tree → ℕ
red_conflicts v = if_red 0 (for_red 1 v) + conflicts v

abbrev red_below : ℕ → Tree → ℕ
red_below n v = if_red 0 (for_red (outside n v) v) + red_distance n v

-- v with a red left child u, whose children a and b are red; v's other child r is not.
module _ (v u i j w : ℕ) (a b r : Tree) where
  abbrev before : Tree
  before = node v i 0 (node u j 0 a 0 b) (suc w) r

  pub rotated_conflicts : red_conflicts (single_left before) ≡ red_conflicts before
  unfolding single_left if_red for_red conflicts
  rotated_conflicts = omega arith

  pub rotated_distance : (n : ℕ) → size before ≤ n → red_below n (single_left before) + (2 * size r + 1) ≡ red_below n before + size a
  unfolding single_left if_red for_red red_distance outside size
  rotated_distance n h = omega arith

-- One such tree: v is slot 2, under the root by a red edge; u is slot 3; S is 5 (slots 4 to 8), B is 1 (slot 12). All sums are 2.
abbrev pub five_nodes : Tree
five_nodes = node 4 10 2 (leaf 5 10) 1 (node 6 20 1 (leaf 7 20) 1 (leaf 8 30))

abbrev pub red_v : Tree
red_v = node 2 50 0 (node 3 30 0 five_nodes 0 (node 9 40 2 (leaf 10 40) 2 (leaf 11 50))) 2 (leaf 12 60)

abbrev pub whole_tree : Tree
whole_tree = node 1 60 0 red_v 2 (leaf 13 70)

-- It is chromatic; kind 2 would be accepted at v but for the red edge to v; rotated all the same, it has as many conflicts, and they
-- are farther away.
pub record RisesUnderRed (v : ℕ) (u t : Tree) : Type 0 where
  pub chromatic : Chromatic 1 t
  pub fits_under_black : condition SingleLeft 1 u ≡ true
  pub refused_under_red : condition_at SingleLeft v t ≡ false
  pub conflicts_stay : conflicts (stepped SingleLeft v t) ≡ conflicts t
  pub distance_rises : red_distance (size t) (stepped SingleLeft v t) ≡ red_distance (size t) t + 2

pub lemma_3_fails : RisesUnderRed 2 red_v whole_tree
unfolding size red level Chromatic left_red condition single_left effect holds_at change_at condition_at stepped outside if_red for_red conflicts red_distance
lemma_3_fails = record {
  chromatic = omega arith;
  fits_under_black = refl;
  refused_under_red = refl;
  conflicts_stay = refl;
  distance_rises = refl;
}
