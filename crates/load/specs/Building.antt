-- What the reader's private functions that write are given, and which words they leave. No public contract cites this page; it serves RULES 16.
use Rattle.std.specs.Prelude.{◌≡◌, List, length, ℕ, zero, suc, ◌+◌, ◌-◌, ◌^◌, ◌≤◌, ◌<◌, min}
use Rattle.tree.specs.Codes.{most_slots}
use Rattle.tree.specs.Tree.{Tree, leaf, node, slot_of, size, depth}
use Rattle.tree.specs.State.{Top, empty, full, nodes, upwards}
use Rattle.format.specs.Words.{header, put_header, slot, put_slot, free_slot, head_of}
use Rattle.saved.specs.Saved.{renumbered, renumbered_top}
use Rattle.saved.specs.There.{TreeAt, TopAt}
use Rattle.load.specs.declared.Place.{Place}

-- a tree's slots, the subtrees' before the node's own
unfoldable pub put_tree : List ℕ → ℕ → Tree → List ℕ
put_tree p w (leaf s k) = put_slot p s (slot k 0 0 w)
put_tree p w (node s k wl l wr r) = put_slot (put_tree (put_tree p wl l) wr r) s (slot k (slot_of l) (slot_of r) w)

unfoldable pub put_top : List ℕ → Top → List ℕ
put_top p empty = p
put_top p (full t) = put_tree p 1 t

-- n free slots from s on, chained upwards
unfoldable pub put_up : List ℕ → ℕ → ℕ → List ℕ
put_up p s zero = p
put_up p s (suc n) = put_up (put_slot p s (free_slot (head_of (upwards (suc s) n)))) (suc s) n

-- all words: the tree, the free slots, the header with L
unfoldable pub put_all : List ℕ → ℕ → ℕ → ℕ → Top → List ℕ
put_all p c n l t = put_header (put_up (put_top p t) (n + 1) (c - n)) (header (min n 1) (head_of (upwards (n + 1) (c - n))) n l)

-- a tree stands in the bytes from place i on, whose slots from s on are 32-bit numbers
pub record Buildable (bytes : List ℕ) (i s left : ℕ) : Type 0 where
  pub weight : ℕ
  pub tree : Tree
  pub end : ℕ
  pub there : TreeAt bytes i weight tree end
  pub deep : depth tree ≤ left
  pub small : s + size tree < 2 ^ 32

-- it is written, its slots numbered from s on; the next place and slot
pub record Built (s w : ℕ) (t : Tree) (j : ℕ) (p q : List ℕ) (r : Place) : Type 0 where
  pub place_is : r.at ≡ j
  pub slot_is : r.slot ≡ s + size t
  pub wrote : q ≡ put_tree p w (renumbered s t)

abbrev pub BuildSays : List ℕ → ℕ → ℕ → List ℕ → List ℕ → Place → Type 0
BuildSays bytes i s p q r = (w : ℕ) (t : Tree) (j : ℕ) → TreeAt bytes i w t j → Built s w t j p q r

-- the same of a whole set of n nodes
pub record TopBuildable (bytes : List ℕ) (n i : ℕ) : Type 0 where
  pub top : Top
  pub there : TopAt bytes i top (length bytes)
  pub nodes_are : nodes top ≡ n
  pub few : n ≤ most_slots

abbrev pub TopBuildSays : List ℕ → ℕ → ℕ → List ℕ → List ℕ → Type 0
TopBuildSays bytes n i p q = (t : Top) → TopAt bytes i t (length bytes) → nodes t ≡ n → q ≡ put_top p (renumbered_top t)

abbrev pub AllBuildSays : List ℕ → ℕ → ℕ → ℕ → ℕ → List ℕ → List ℕ → Type 0
AllBuildSays bytes c n l i p q = (t : Top) → TopAt bytes i t (length bytes) → nodes t ≡ n → q ≡ put_all p c n l (renumbered_top t)
