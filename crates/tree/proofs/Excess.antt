-- The report's third number, the sum of weight less one over the overweighted edges: it is 0 under the same trees as the number of those
-- edges, which it was (`excess_none`), and never less than that (`edges_within`); one leaf of weight 9, and no other overweighted edge,
-- gives 8 (`nine_reported`; crate chromatic's Excess.antt: over the exported calls).
-- Why: an edge adds its weight less one, which is 0 exactly where it is not overweighted. Assumes nothing.
use mathlib.Core.Path.{◌≡◌, refl}
use mathlib.Core.Logic.{◌↔◌}
use mathlib.Core.List.{List, [], ◌∷◌}
use Prim.Native.Nat.{ℕ, zero, suc, pred, ◌+◌, ◌-◌, ◌≤◌, ◌^◌}
use lib.Pow.{pow_pos}
use native.Mathlib.Omega.{arith}
use Rattle.tree.specs.Tree.{Tree, leaf, node, size, one, overweighted, Ordered, level, Chromatic}
use Rattle.tree.specs.Distances.{outside, if_red, for_red, conflicts, red_distance, over_distance, excess_weight, over_edges, bound}
use Rattle.tree.specs.State.{full, key_end, Good, report, figures}

-- one edge
edge_within : (w : ℕ) → one (overweighted w) ≤ pred w
unfolding one overweighted
edge_within zero = omega arith
edge_within (suc zero) = omega arith
edge_within (suc (suc w)) = omega arith

edge_none : (w : ℕ) → one (overweighted w) ≡ 0 → pred w ≡ 0
unfolding one overweighted
edge_none zero e = refl
edge_none (suc zero) e = refl
edge_none (suc (suc w)) e = absurd (omega arith)

pub edges_within : (t : Tree) → over_edges t ≤ excess_weight t
unfolding over_edges excess_weight
edges_within (leaf s k) = omega arith
edges_within (node s k wl l wr r) = omega (arith, edge_within wl, edge_within wr, edges_within l, edges_within r)

light_none : (t : Tree) → over_edges t ≡ 0 → excess_weight t ≡ 0
unfolding over_edges excess_weight
light_none (leaf s k) e = refl
light_none (node s k wl l wr r) e =
    omega (arith, edge_none wl (omega arith), edge_none wr (omega arith), light_none l (omega arith), light_none r (omega arith))

pub excess_none : (t : Tree) → (excess_weight t ≡ 0) ↔ (over_edges t ≡ 0)
excess_none t = (λ e. omega (arith, edges_within t), light_none t)

-- 2 to the power n leaves, all edges black, keys from k on. Slots do not count here: all are 0.
unfoldable pub black_tree : (n k : ℕ) → Tree
black_tree zero k = leaf 0 k
black_tree (suc n) k = node 0 (k + 2 ^ n - 1) 1 (black_tree n k) 1 (black_tree n (k + 2 ^ n))

-- 02 (iii): "One leaf of weight 9 shows as 1, and then eight units have to be worked off." It shows as 1 where no other edge is overweighted:
-- so its sibling has at least 256 leaves.
unfoldable pub nine : Tree
nine = node 0 0 9 (leaf 0 0) 1 (black_tree 8 1)

pub nine_shows : over_edges nine ≡ 1
unfolding nine black_tree over_edges one overweighted
nine_shows = refl

-- N, L, excess weight, R, D, Q, bound
abbrev pub nine_figures : List ℕ
nine_figures = 513 ∷ 9 ∷ 8 ∷ 0 ∷ 4096 ∷ 0 ∷ 6307840 ∷ []

pub nine_reported : figures (report (full nine)) ≡ nine_figures
unfolding nine black_tree figures report size level one overweighted excess_weight conflicts red_distance over_distance bound outside if_red for_red
nine_reported = refl

-- its keys and weights are as the audit rules ask
black_ordered : (n k lo hi : ℕ) → lo ≤ k → k + 2 ^ n ≤ hi → Ordered lo hi (black_tree n k)
unfolding black_tree Ordered
black_ordered zero k lo hi a b = (a, omega arith)
black_ordered (suc n) k lo hi a b = (black_ordered n k lo _ a (omega arith), black_ordered n (k + 2 ^ n) _ hi (omega (arith, pow_pos n)) (omega arith))

black_level : (n k : ℕ) → level (black_tree n k) ≡ n
unfolding black_tree level
black_level zero k = refl
black_level (suc n) k = omega (arith, black_level n k)

black_chromatic : (n k : ℕ) → Chromatic 1 (black_tree n k)
unfolding black_tree Chromatic
black_chromatic zero k = omega arith
black_chromatic (suc n) k = (omega (arith, black_level n k, black_level n (k + 2 ^ n)), black_chromatic n k, black_chromatic n (k + 2 ^ n))

pub nine_good : Good nine
unfolding nine Ordered Chromatic level
nine_good = record {
  ordered = ((omega arith, omega arith), black_ordered 8 1 1 key_end (omega arith) (omega arith));
  chromatic = (omega (arith, black_level 8 1), omega arith, black_chromatic 8 1);
  low = omega arith;
}
