-- How document 01's trees and kinds stand to the paper's (RULES 12): a tree once slots are forgotten, where a slot stands, which case a
-- kind is, and 01's one narrowing.
use Rattle.std.specs.Prelude.{◌≡◌, List, [], ◌∷◌, ℕ}
use Rattle.tree.specs.declared.Kind.{Kind}
use Rattle.tree.specs.declared.Kind.TheVariants.{Blacken, SingleLeft, SingleRight, DoubleLeft, DoubleRight, Lighten, LightenLeft, LightenRight}
use Rattle.tree.specs.Tree.{Tree, leaf, node, slot_of}
use Rattle.paper.specs.Paper.{FullTree, leaf_of, internal, Side, left, right, Parent, edge, Case, case1, case2, case3, case4, case5, NotRedAbove}

-- our tree once slots are forgotten
unfoldable pub forget : Tree → FullTree
forget (leaf s k) = leaf_of k
forget (node s k wl l wr r) = internal k wl (forget l) wr (forget r)

-- u is the subtree of t at slot s: the way to it, and what t and u hang from
pub data Stands (s : ℕ) (u : Tree) : List Side → Parent → Tree → Parent → Type 0 where
  here : {p : Parent} → slot_of u ≡ s → Stands s u [] p u p
  in_left : {way : List Side} {p q : Parent} {v k wl wr : ℕ} {l r : Tree} → Stands s u way (edge wl) l q
      → Stands s u (left ∷ way) p (node v k wl l wr r) q
  in_right : {way : List Side} {p q : Parent} {v k wl wr : ℕ} {l r : Tree} → Stands s u way (edge wr) r q
      → Stands s u (right ∷ way) p (node v k wl l wr r) q

-- RULES 12.1: which case a kind is, and in which form: kinds 1 and 6 are Cases 1 and 4 in either form
pub data Is : Kind → Case → Side → Type 0 where
  kind1 : {s : Side} → Is Blacken case1 s
  kind2 : Is SingleLeft case2 left
  kind3 : Is SingleRight case2 right
  kind4 : Is DoubleLeft case3 left
  kind5 : Is DoubleRight case3 right
  kind6 : {s : Side} → Is Lighten case4 s
  kind7 : Is LightenLeft case5 left
  kind8 : Is LightenRight case5 right

-- 01's narrowing of Cases 2 and 3 (RULES 12.2): "'v not red' in kinds 2 to 5 is ours. Source 003 asks it in Case 1 only."
unfoldable pub Narrowed : Case → Parent → Type 0
Narrowed case1 p = Unit {0}
Narrowed case2 p = NotRedAbove p
Narrowed case3 p = NotRedAbove p
Narrowed case4 p = Unit {0}
Narrowed case5 p = Unit {0}
