-- What the writer's private functions are given and say. No public contract cites this page; it serves RULES 16.
use Rattle.std.specs.Prelude.{◌≡◌, true, false, List, eqb, length, ℕ, ◌+◌, ◌*◌, ◌^◌, ◌<◌}
use Rattle.std.proofs.lemmas.List.Edits.{sets}
use Rattle.tree.specs.Codes.{most_slots}
use Rattle.tree.specs.Tree.{size}
use Rattle.format.specs.declared.Slot.{Slot}
use Rattle.pool.specs.Standing.{Standing}
use Rattle.saved.specs.Saved.{tree_numbers, bytes_of_all}

-- a slot's first number (RULES 16.2); a leaf's `left` is 0
unfoldable pub first_number : Slot → ℕ
first_number c = elim (eqb c.left 0) [ true ↦ 2 * c.weight | false ↦ 2 * c.weight + 1 ]

-- a tree stands at slot s as the audit leaves it, at most `left` nodes deep
abbrev pub Stands : List ℕ → ℕ → ℕ → Type 0
Stands p s left = Standing p s most_slots left

-- seven bytes a node from place `at` on are no further than a place can be
pub record Placed (p : List ℕ) (s left at : ℕ) : Type 0 where
  pub standing : Stands p s left
  pub room : at + 7 * size standing.tree < 2 ^ 64

-- numbers were written from place `at` on, and the next place is r
pub record Put (vs out out' : List ℕ) (at r : ℕ) : Type 0 where
  pub next : r ≡ at + length (bytes_of_all vs)
  pub wrote : out' ≡ sets out at (bytes_of_all vs)

abbrev pub Puts : List ℕ → ℕ → ℕ → List ℕ → List ℕ → ℕ → ℕ → Type 0
Puts p s left out out' at r = (S : Stands p s left) → Put (tree_numbers S.weight S.tree) out out' at r
