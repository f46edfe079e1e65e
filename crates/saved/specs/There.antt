-- A set's numbers as they stand in bytes, place by place: what the reader's functions are told and tell. No public contract cites this page;
-- it serves RULES 16.
use Rattle.std.specs.Prelude.{◌≡◌, List, length, ℕ, ◌+◌, ◌*◌, Ok}
use Rattle.tree.specs.Tree.{Tree, leaf, node}
use Rattle.tree.specs.State.{Top, empty, full, nodes}
use Rattle.encoding.specs.Numbers.{number}

-- the numbers of a tree, which hangs from an edge of weight w, from place i up to place j; its slots may be any
pub data TreeAt (bytes : List ℕ) : ℕ → ℕ → Tree → ℕ → Type 0 where
  leaf_at_case : {i m j w s k : ℕ} → number bytes i ≡ Ok (2 * w, m) → number bytes m ≡ Ok (k, j) → TreeAt bytes i w (leaf s k) j
  node_at : {i m a b j w s k wl wr : ℕ} {l r : Tree} → number bytes i ≡ Ok (2 * w + 1, m) → number bytes m ≡ Ok (k, a) → TreeAt bytes a wl l b
      → TreeAt bytes b wr r j → TreeAt bytes i w (node s k wl l wr r) j

pub data TopAt (bytes : List ℕ) : ℕ → Top → ℕ → Type 0 where
  none_at : {i : ℕ} → TopAt bytes i empty i
  tree_at : {i j : ℕ} {t : Tree} → TreeAt bytes i 1 t j → TopAt bytes i (full t) j

-- C, N and the nodes, and nothing after them
pub record SavedAt (bytes : List ℕ) (c : ℕ) (t : Top) : Type 0 where
  pub count_from : ℕ
  pub nodes_from : ℕ
  pub slots_there : number bytes 0 ≡ Ok (c, count_from)
  pub count_there : number bytes count_from ≡ Ok (nodes t, nodes_from)
  pub top_there : TopAt bytes nodes_from t (length bytes)
