-- Words and States meet here (RULES 1): the words of a pool show a State.
use Rattle.std.specs.Prelude.{◌≡◌, List, [], ◌∷◌, length, ℕ, ◌+◌, ◌*◌, ◌≤◌, ◌<◌}
use Rattle.format.specs.declared.Header.{Header}
use Rattle.format.specs.declared.Slot.{Slot}
use Rattle.format.specs.Words.{word_of, slot, header_of, slot_at, free_slot, head_of, shown_header}
use Rattle.tree.specs.Tree.{Tree, leaf, node, slot_of}
use Rattle.tree.specs.State.{State, Top, empty, full}

-- slot s is one of the pool's, and holds c
pub record At (p : List ℕ) (s : ℕ) (c : Slot) : Type 0 where
  pub from_one : 1 ≤ s
  pub inside : word_of s + 3 < length p
  pub content : slot_at p s ≡ c

-- the slots of t hold t, which hangs from an edge of weight w
pub data Holds (p : List ℕ) : ℕ → Tree → Type 0 where
  holds_leaf : {s k w : ℕ} → At p s (slot k 0 0 w) → Holds p w (leaf s k)
  holds_node : {s k w wl wr : ℕ} {l r : Tree} → At p s (slot k (slot_of l) (slot_of r) w) → Holds p wl l → Holds p wr r → Holds p w (node s k wl l wr r)

unfoldable pub HoldsTop : List ℕ → Top → Type 0
HoldsTop p empty = Unit {0}
HoldsTop p (full t) = Holds p 1 t

-- the free chain from slot s on
pub data Chain (p : List ℕ) : ℕ → List ℕ → Type 0 where
  chain_end : Chain p 0 []
  chain_more : {s n : ℕ} {fs : List ℕ} → At p s (free_slot n) → Chain p n fs → Chain p s (s ∷ fs)

-- RULES 1.8: the header h, by value, and the words of the slots in p show S. Where a header lies is the matter of those who read or write
-- it.
pub record Shows (h : Header) (p : List ℕ) (S : State) : Type 0 where
  pub length_is : length p ≡ 4 + 4 * S.slots
  pub header_is : h ≡ shown_header S
  pub tree_held : HoldsTop p S.top
  pub chain_held : Chain p (head_of S.free) S.free

-- A pool shows S: its header lies in its first four words.
abbrev pub PoolShows : List ℕ → State → Type 0
PoolShows p S = Shows (header_of p) p S
