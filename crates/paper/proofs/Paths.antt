-- Paths in the paper's trees. Every tree has a path to a leaf (`first_path`), and where the leaves' weighted levels are the same and their
-- parent edges are not red, as one recursion says it (`Even`), every path to a leaf weighs as much as the left-most (`even_level`); and the
-- other way round (`even_from`). By going down the paths. Assumes nothing.
use mathlib.Core.Path.{◌≡◌, refl, sym, ◌∙◌}
use mathlib.Core.Logic.{◌≢◌}
use mathlib.Core.List.{List}
use Prim.Native.Nat.{ℕ, ◌+◌}
use native.Mathlib.Omega.{arith}
use Rattle.paper.specs.Paper.{FullTree, leaf_of, internal, Side, left, right, Edge, to_left, to_right, Path, stay, down, weighted_length, ChromaticTree}

-- a path from T to a leaf, of this weighted length
pub data LeafPath (T : FullTree) (n : ℕ) : Type 0 where
  leaf_path : {ws : List ℕ} {k : ℕ} → Path T ws (leaf_of k) → weighted_length ws ≡ n → LeafPath T n

-- the weights on the way to the first leaf, added up
unfoldable pub level_of : FullTree → ℕ
level_of (leaf_of k) = 0
level_of (internal k wl l wr r) = wl + level_of l

pub first_path : (T : FullTree) → LeafPath T (level_of T)
unfolding level_of weighted_length
first_path (leaf_of k) = leaf_path stay refl
first_path (internal k wl l wr r) = go (first_path l)
  where
    go : LeafPath l (level_of l) → LeafPath (internal k wl l wr r) (wl + level_of l)
    go (leaf_path p e) = leaf_path (down to_left p) (omega arith)

-- T hangs from an edge of weight w
unfoldable pub Even : ℕ → FullTree → Type 0
Even w (leaf_of k) = w ≢ 0
Even w (internal k wl l wr r) = (wl + level_of l ≡ wr + level_of r) × Even wl l × Even wr r

even_child : (w : ℕ) {s : Side} {x : ℕ} {v u : FullTree} → Edge s v x u → Even w v → Even x u
unfolding Even
even_child w to_left h = h.1
even_child w to_right h = h.2

even_below : (w : ℕ) {s : Side} {x : ℕ} {ws : List ℕ} {T v u : FullTree} → Path T ws v → Edge s v x u → Even w T → Even x u
even_below w stay e h = even_child w e h
even_below w (down {w = y} d p) e h = even_below y p e (even_child w d h)

pub even_level : (w : ℕ) {k : ℕ} {ws : List ℕ} {T : FullTree} → Path T ws (leaf_of k) → Even w T → weighted_length ws ≡ level_of T
unfolding Even weighted_length level_of
even_level w stay h = refl
even_level w (down {w = y} to_left p) h = omega (arith, even_level y p h.1)
even_level w (down {w = y} to_right p) h = omega (arith, even_level y p h.2)

pub even_tree : (w : ℕ) (T : FullTree) → Even w T → ChromaticTree T
unfolding Even
even_tree w T h = record { rb1 = λ p e. even_below w p e h; rb2 = λ p q. even_level w p h ∙ sym (even_level w q h) }

chromatic_below : {s : Side} {w : ℕ} {v u : FullTree} → Edge s v w u → ChromaticTree v → ChromaticTree u
unfolding weighted_length
chromatic_below {w} e c = record { rb1 = λ p d. c.rb1 (down e p) d; rb2 = λ p q. omega (arith, c.rb2 (down e p) (down e q)) }

pub even_from : (w : ℕ) (T : FullTree) → ((k : ℕ) → T ≡ leaf_of k → w ≢ 0) → ChromaticTree T → Even w T
unfolding Even weighted_length
even_from w (leaf_of k) h c = h k refl
even_from w (internal k wl l wr r) h c = (
  go (first_path l) (first_path r),
  even_from wl l (λ j e. c.rb1 {s = left} {k = j} stay (rw (sym e) to_left)) (chromatic_below to_left c),
  even_from wr r (λ j e. c.rb1 {s = right} {k = j} stay (rw (sym e) to_right)) (chromatic_below to_right c),
)
  where
    go : LeafPath l (level_of l) → LeafPath r (level_of r) → wl + level_of l ≡ wr + level_of r
    go (leaf_path p e) (leaf_path q f) = omega (arith, c.rb2 (down to_left p) (down to_right q))
