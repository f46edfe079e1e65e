-- What of a changed edge the nodes above see, and which nodes are at the end of a search; serves RULES 5.
use Rattle.std.specs.Prelude.{Bool, true, false, ◌||◌, List, [], ◌∷◌, leb, ℕ}
use Rattle.std.specs.Bool.{xor}
use Rattle.tree.specs.Tree.{Tree, leaf, node, red, overweighted}

-- An edge to a node had weight w and now has q. The node's parent sees a difference if the edge was red or is (a red edge shows the
-- colours below it as well), or if it was overweighted and is not, or the other way round; its grandparent sees the edge's colour alone.
unfoldable pub parent_sees : (w q : ℕ) → Bool
parent_sees w q = red w || red q || xor (overweighted w) (overweighted q)

unfoldable pub grand_sees : (w q : ℕ) → Bool
grand_sees w q = xor (red w) (red q)

-- The last four slots of the search for x, the leaf's first, 0 where the way is shorter; a, b and c are the three above the tree.
unfoldable pub end_from : (x a b c : ℕ) → Tree → List ℕ
end_from x a b c (leaf v k) = v ∷ c ∷ b ∷ a ∷ []
end_from x a b c (node v k wl l wr r) = elim (leb x k) [ true ↦ end_from x b c v l | false ↦ end_from x b c v r ]

abbrev pub way_end : (x : ℕ) → Tree → List ℕ
way_end x t = end_from x 0 0 0 t
