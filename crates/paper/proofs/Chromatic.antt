-- Law 1: our trees are chromatic exactly in the paper's sense (`chromatic_as_paper`), and search trees exactly in its sense, but that our
-- keys have 32 bits (`order_as_paper`). So what 01's audit rules ask of a tree is what the paper asks, and two limits of 01's besides: keys
-- of 32 bits, and leaves of weighted level at most 255 (`good_as_paper`). Of an empty tree neither asks anything.
-- Why: by induction on the tree. In a chromatic tree every path to a leaf weighs as much as the left-most; and back, two paths through
-- the two children of a node weigh the same. Assumes nothing.
use mathlib.Core.Path.{◌≡◌, refl}
use mathlib.Core.Logic.{◌↔◌}
use mathlib.Core.List.{List}
use Prim.Native.Nat.{ℕ, suc, ◌≤◌, ◌<◌}
use native.Mathlib.Omega.{arith}
use Rattle.tree.specs.Codes.{most_level}
use Rattle.tree.specs.Tree.{Tree, leaf, node, level, Ordered, Chromatic}
use Rattle.tree.specs.State.{key_end, Good}
use Rattle.tree.proofs.Order.{ordered_bounds}
use Rattle.paper.specs.Paper.{FullTree, leaf_of, internal, Side, Edge, to_left, to_right, Path, stay, down, weighted_length, SearchTree, ChromaticTree}
use Rattle.paper.specs.Ours.{forget}
use Rattle.paper.proofs.Paths.{LeafPath, leaf_path, level_of, first_path, Even, even_level, even_tree, even_from}

pub level_forget : (t : Tree) → level_of (forget t) ≡ level t
unfolding level_of forget level
level_forget (leaf s k) = refl
level_forget (node s k wl l wr r) = omega (arith, level_forget l)

pub chromatic_even : (w : ℕ) (t : Tree) → Chromatic w t → Even w (forget t)
unfolding Even forget Chromatic
chromatic_even w (leaf s k) c = omega arith
chromatic_even w (node s k wl l wr r) c =
    (omega (arith, level_forget l, level_forget r), chromatic_even wl l c.1, chromatic_even wr r c.2)

pub even_chromatic : (w : ℕ) (t : Tree) → Even w (forget t) → Chromatic w t
unfolding Even forget Chromatic
even_chromatic w (leaf s k) c = omega arith
even_chromatic w (node s k wl l wr r) c =
    (omega (arith, level_forget l, level_forget r), even_chromatic wl l c.1, even_chromatic wr r c.2)

-- RB1 and RB2
pub chromatic_as_paper : (t : Tree) → Chromatic 1 t ↔ ChromaticTree (forget t)
chromatic_as_paper t = (
  λ c. even_tree 1 (forget t) (chromatic_even 1 t c),
  λ c. even_chromatic 1 t (even_from 1 (forget t) (λ k e. omega arith) c),
)

-- Order: every key is at least lo and below hi,
record KeysIn (lo hi : ℕ) (T : FullTree) : Type 0 where
  between : {ws : List ℕ} {x : ℕ} → Path T ws (leaf_of x) → (lo ≤ x) × (x < hi)

key_between : (lo hi : ℕ) (t : Tree) {ws : List ℕ} {x : ℕ} → Ordered lo hi t → Path (forget t) ws (leaf_of x) → (lo ≤ x) × (x < hi)
unfolding Ordered forget
key_between lo hi (leaf s k) o stay = o
key_between lo hi (leaf s k) o (down e p) = elim e [ ]
key_between lo hi (node s k wl l wr r) o (down to_left p) =
    let h = key_between lo (suc k) l o.0 p in let b = ordered_bounds (suc k) hi r o.1 in (h.0, omega arith)
key_between lo hi (node s k wl l wr r) o (down to_right p) =
    let h = key_between (suc k) hi r o.1 p in let b = ordered_bounds lo (suc k) l o.0 in (omega arith, h.1)

-- and the routers stand between the keys.
left_between : (lo hi : ℕ) (t : Tree) {ws us : List ℕ} {k wl wr x : ℕ} {l r : FullTree} → Ordered lo hi t → Path (forget t) ws (internal k wl l wr r)
    → Path l us (leaf_of x) → x ≤ k
unfolding Ordered forget
left_between lo hi (leaf s k) o (down e p) q = elim e [ ]
left_between lo hi (node s k wl l wr r) o stay q = let h = key_between lo (suc k) l o.0 q in omega arith
left_between lo hi (node s k wl l wr r) o (down to_left p) q = left_between lo (suc k) l o.0 p q
left_between lo hi (node s k wl l wr r) o (down to_right p) q = left_between (suc k) hi r o.1 p q

right_between : (lo hi : ℕ) (t : Tree) {ws us : List ℕ} {k wl wr x : ℕ} {l r : FullTree} → Ordered lo hi t → Path (forget t) ws (internal k wl l wr r)
    → Path r us (leaf_of x) → k < x
unfolding Ordered forget
right_between lo hi (leaf s k) o (down e p) q = elim e [ ]
right_between lo hi (node s k wl l wr r) o stay q = let h = key_between (suc k) hi r o.1 q in omega arith
right_between lo hi (node s k wl l wr r) o (down to_left p) q = right_between lo (suc k) l o.0 p q
right_between lo hi (node s k wl l wr r) o (down to_right p) q = right_between (suc k) hi r o.1 p q

search_below : {s : Side} {w : ℕ} {v u : FullTree} → Edge s v w u → SearchTree v → SearchTree u
search_below e c = record { left_keys = λ p q. c.left_keys (down e p) q; right_keys = λ p q. c.right_keys (down e p) q }

search_ordered : (lo hi : ℕ) (t : Tree) → SearchTree (forget t) → KeysIn lo hi (forget t) → Ordered lo hi t
unfolding Ordered forget
search_ordered lo hi (leaf s k) c b = b.between stay
search_ordered lo hi (node s k wl l wr r) c b = (
  search_ordered lo (suc k) l (search_below to_left c) (record { between = λ p. ((b.between (down to_left p)).0, omega (arith, c.left_keys stay p)) }),
  search_ordered (suc k) hi r (search_below to_right c) (record { between = λ p. (omega (arith, c.right_keys stay p), (b.between (down to_right p)).1) }),
)

-- 01: "Keys may be any 32-bit number." The paper's are "chosen from a given domain".
pub record Keys32 (T : FullTree) : Type 0 where
  pub below_end : {ws : List ℕ} {x : ℕ} → Path T ws (leaf_of x) → x < key_end

pub order_as_paper : (t : Tree) → Ordered 0 key_end t ↔ (SearchTree (forget t) × Keys32 (forget t))
order_as_paper t = (
  λ o. (
    record { left_keys = λ p q. left_between 0 key_end t o p q; right_keys = λ p q. right_between 0 key_end t o p q },
    record { below_end = λ p. (key_between 0 key_end t o p).1 },
  ),
  λ h. search_ordered 0 key_end t h.0 (record { between = λ p. (omega arith, h.1.below_end p) }),
)

-- 01: "L is at most 255". The paper has no limit.
pub record Low (T : FullTree) : Type 0 where
  pub at_most : {ws : List ℕ} {k : ℕ} → Path T ws (leaf_of k) → weighted_length ws ≤ most_level

-- What the audit rules ask of a tree: the paper's conditions, and 01's two limits.
pub record GoodAsPaper (T : FullTree) : Type 0 where
  pub search_tree : SearchTree T
  pub chromatic_tree : ChromaticTree T
  pub keys_32 : Keys32 T
  pub low : Low T

pub good_as_paper : (t : Tree) → Good t ↔ GoodAsPaper (forget t)
good_as_paper t = (
  λ g.
      let o = (order_as_paper t).0 g.ordered in
      record {
        search_tree = o.0;
        chromatic_tree = (chromatic_as_paper t).0 g.chromatic;
        keys_32 = o.1;
        low = record { at_most = λ p. omega (arith, even_level 1 p (chromatic_even 1 t g.chromatic), level_forget t, g.low) };
      },
  λ h. record {
    ordered = (order_as_paper t).1 (h.search_tree, h.keys_32);
    chromatic = (chromatic_as_paper t).1 h.chromatic_tree;
    low = first_low h (first_path (forget t));
  },
)
  where
    first_low : GoodAsPaper (forget t) → LeafPath (forget t) (level_of (forget t)) → level t ≤ most_level
    first_low h (leaf_path p e) = omega (arith, h.low.at_most p, level_forget t)
