-- Walking down a tree that the audit has passed: what such a walk may ask for at a slot, and the allowance that it begins with. Every
-- recursion over a sound tree asks for this, with what it counts or writes besides. This page serves RULES 6.
use Rattle.std.specs.Prelude.{List, ℕ, ◌+◌, ◌/◌, ◌≤◌}
use Rattle.tree.specs.Codes.{most_slots}
use Rattle.tree.specs.Tree.{Tree, size}
use Rattle.format.specs.Words.{last_slot}
use Rattle.pool.specs.Walks.{Fine}

-- A tree of n nodes is at most (n + 1) / 2 nodes deep: so (C + 1) / 2, with no C above the largest.
abbrev pub allowance : List ℕ → ℕ
allowance p = (last_slot p + 1) / 2

-- A tree stands at slot s as the audit leaves it, at most `left` nodes deep, with no more than n nodes, and n is no more than the slots
-- of the largest pool.
pub record Standing (p : List ℕ) (s n left : ℕ) : Type 0 where
  pub lo : ℕ
  pub hi : ℕ
  pub weight : ℕ
  pub tree : Tree
  pub fine : Fine p s lo hi left weight tree
  pub inside : size tree ≤ n
  pub few : n ≤ most_slots
