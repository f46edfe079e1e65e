-- One step of a search: at a router it goes left when the key is at most the router, else right (`reach_left`, `reach_right`). Assumes nothing.
use mathlib.Core.Path.{◌≡◌}
use Prim.Native.Nat.{ℕ, ◌≤◌, ◌<◌}
use borrow.Author.Tests.{le-leb, lt-leb}
use Rattle.tree.specs.Tree.{Tree, node}
use Rattle.tree.specs.Updates.{reach}

-- "Search goes left when the key is at most the router, else right."
pub reach_left : (x s k wl wr : ℕ) (l r : Tree) → x ≤ k → reach x (node s k wl l wr r) ≡ reach x l
unfolding reach
reach_left x s k wl wr l r h = rw (le-leb x k h, reach)

pub reach_right : (x s k wl wr : ℕ) (l r : Tree) → k < x → reach x (node s k wl l wr r) ≡ reach x r
unfolding reach
reach_right x s k wl wr l r h = rw (lt-leb x k h, reach)
