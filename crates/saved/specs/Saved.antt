-- 02 (i), "Keep the set over a restart" (RULES 16): what the writer writes of a State, as numbers and as bytes, and the slots that the reader
-- gives. What it takes from the pool's rules serves RULES 2.
use Rattle.std.specs.Prelude.{List, [], ◌∷◌, ◌++◌, ℕ, suc, ◌+◌, ◌*◌, ◌-◌}
use Rattle.tree.specs.Tree.{Tree, leaf, node, size}
use Rattle.tree.specs.State.{State, state, Top, empty, full, nodes, upwards}
use Rattle.numbers.specs.Shortest.{bytes_of}

-- RULES 16.2: "each node from the root, node before its left subtree before its right: twice the weight, plus 1 for an inner node; then the
-- key or router." The tree hangs from an edge of weight w.
unfoldable pub tree_numbers : ℕ → Tree → List ℕ
tree_numbers w (leaf s k) = (2 * w) ∷ k ∷ []
tree_numbers w (node s k wl l wr r) = (2 * w + 1) ∷ k ∷ tree_numbers wl l ++ tree_numbers wr r

-- The root's weight is 1 (RULES 2.6).
unfoldable pub top_numbers : Top → List ℕ
top_numbers empty = []
top_numbers (full t) = tree_numbers 1 t

-- RULES 16.1: "C, N, then each node"
unfoldable pub saved_numbers : State → List ℕ
saved_numbers S = S.slots ∷ nodes S.top ∷ top_numbers S.top

-- RULES 16.3: "all numbers in seven-bit groups"
unfoldable pub bytes_of_all : List ℕ → List ℕ
bytes_of_all [] = []
bytes_of_all (v ∷ vs) = bytes_of v ++ bytes_of_all vs

unfoldable pub saved_bytes : State → List ℕ
saved_bytes S = bytes_of_all (saved_numbers S)

-- RULES 16.6: "The reader numbers slots 1, 2, .. in that order": the tree with its slots numbered from s on
unfoldable pub renumbered : ℕ → Tree → Tree
renumbered s (leaf v k) = leaf s k
renumbered s (node v k wl l wr r) = node s k wl (renumbered (suc s) l) wr (renumbered (suc s + size l) r)

unfoldable pub renumbered_top : Top → Top
renumbered_top empty = empty
renumbered_top (full t) = full (renumbered 1 t)

-- ".. and chains the rest upwards."
unfoldable pub with_rest : ℕ → Top → State
with_rest c t = state c t (upwards (suc (nodes t)) (c - nodes t))

unfoldable pub renumbered_state : State → State
renumbered_state S = with_rest S.slots (renumbered_top S.top)

-- RULES 16.7: "the same keys, routers, shape and weights; slot numbers may differ"
pub data Alike : Tree → Tree → Type 0 where
  alike_leaf : {s v k : ℕ} → Alike (leaf s k) (leaf v k)
  alike_node : {s v k wl wr : ℕ} {l m r q : Tree} → Alike l m → Alike r q → Alike (node s k wl l wr r) (node v k wl m wr q)

pub data AlikeTop : Top → Top → Type 0 where
  alike_empty : AlikeTop empty empty
  alike_full : {t u : Tree} → Alike t u → AlikeTop (full t) (full u)
