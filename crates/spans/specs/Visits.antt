-- How far a count walks (RULES 18.7): the slots that it visits, and the nodes of a tree that it may visit. No public contract cites this page.
use Rattle.std.specs.Prelude.{ℕ, ◌+◌, ◌-◌, Bool, true, false, not, ◌&&◌, ◌||◌, List, [], ◌∷◌, ◌==◌, nat_le}
use Rattle.tree.specs.Tree.{Tree, leaf, node, one, keys}
use Rattle.tree.specs.State.{Top, empty, full}
use Rattle.tree.specs.Spans.{within}
use Rattle.format.specs.Words.{last_slot}
use Rattle.spans.specs.Spanning.{tally, tally_from}

-- The slots that it visits: those that it might, less those that it has left at its end.
unfoldable pub count_visits : List ℕ → (root a b : ℕ) → ℕ
count_visits p root a b = elim (root == 0) [ true ↦ 0 | false ↦ last_slot p - (tally_from (last_slot p) p a b root (tally 0 (last_slot p))).left ]

-- all keys of a list lie in the span
unfoldable pub all_within : (a b : ℕ) → List ℕ → Bool
all_within a b [] = true
all_within a b (k ∷ ks) = within a b k && all_within a b ks

-- The slots on the ways of a and b and those of the nodes whose keys all lie in the span: whether the root of t is on the way of a, and on that of b, is
-- given
unfoldable pub is_near : (a b : ℕ) (onA onB : Bool) → Tree → ℕ
is_near a b onA onB t = one (onA || onB || all_within a b (keys t))

-- How many such nodes t has. 01: "Search goes left when the key is at most the router, else right."
unfoldable pub near : (a b : ℕ) (onA onB : Bool) → Tree → ℕ
near a b onA onB (leaf s k) = is_near a b onA onB (leaf s k)
near a b onA onB (node s k wl l wr r) =
    is_near a b onA onB (node s k wl l wr r) + near a b (onA && nat_le a k) (onB && nat_le b k) l + near a b (onA && not (nat_le a k)) (onB && not (nat_le b k)) r

-- Both ways begin at the root.
unfoldable pub near_top : (a b : ℕ) → Top → ℕ
near_top a b empty = 0
near_top a b (full t) = near a b true true t
