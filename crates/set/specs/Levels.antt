-- 02 (v) of words (RULES 1.3, 3.4): that the fourth header word is L, and what a delete right under the root takes off it.
use Rattle.std.specs.Prelude.{◌≡◌, true, false, List, leb, get_or, ℕ}
use Rattle.tree.specs.State.{level_top}
use Rattle.format.specs.declared.Slot.{Slot}
use Rattle.format.specs.Words.{header_of, slot_at}
use Rattle.format.specs.Audit.{bare, state_of}

-- RULES 1.3: "Keep L in the fourth header word": it is L of the tree that the words show.
abbrev pub LevelTrue : List ℕ → Type 0
LevelTrue p = get_or p 3 0 ≡ level_top (state_of p).top

-- RULES 3.4: the weight of the leaf's sibling, where the search for x ends at a leaf right under the root; else nothing. Read off the words:
-- c are the root's, l and r its children's. "A leaf has left and right 0."
unfoldable pub sibling_weight : ℕ → (c l r : Slot) → ℕ
sibling_weight x c l r = elim (bare c) [
  | true ↦ 0
  | false ↦ elim (leb x c.key) [
    | true ↦ elim (bare l) [ true ↦ r.weight | false ↦ 0 ]
    | false ↦ elim (bare r) [ true ↦ l.weight | false ↦ 0 ]
  ]
]

unfoldable pub sibling_under_root : List ℕ → ℕ → ℕ
sibling_under_root p x = let c = slot_at p (header_of p).root in sibling_weight x c (slot_at p c.left) (slot_at p c.right)
