-- Trees that are alike but for their slots: they are written alike, sound alike, and numbered alike; and a tree is like itself
-- renumbered. Assumes nothing.
use mathlib.Core.Path.{◌≡◌, refl}
use Prim.Native.Nat.{ℕ, suc, ◌+◌, ◌≤◌, ◌<◌}
use mathlib.Core.Logic.{◌≢◌}
use native.Mathlib.Decide.{dec_lt}
use native.Mathlib.Omega.{arith}
use Rattle.tree.specs.Tree.{Tree, leaf, node, size, count, keys, Ordered, level, Chromatic}
use Rattle.tree.specs.State.{Top, empty, full, nodes, level_top, keys_of, Good, GoodTop}
use Rattle.tree.proofs.Counts.{same_or_not, one_same, one_other}
use Rattle.saved.specs.Saved.{tree_numbers, top_numbers, renumbered, renumbered_top, Alike, alike_leaf, alike_node, AlikeTop, alike_empty, alike_full}

pub alike_size : {t u : Tree} → Alike t u → size u ≡ size t
unfolding size
alike_size alike_leaf = refl
alike_size (alike_node a b) = rw (alike_size a, alike_size b)

pub alike_level : {t u : Tree} → Alike t u → level u ≡ level t
unfolding level
alike_level alike_leaf = refl
alike_level (alike_node a b) = rw (alike_level a)

pub alike_keys : {t u : Tree} → Alike t u → keys u ≡ keys t
unfolding keys
alike_keys alike_leaf = refl
alike_keys (alike_node a b) = rw (alike_keys a, alike_keys b)

pub alike_numbers : (w : ℕ) {t u : Tree} → Alike t u → tree_numbers w u ≡ tree_numbers w t
unfolding tree_numbers
alike_numbers w alike_leaf = refl
alike_numbers w (alike_node {wl = wl} {wr = wr} a b) = rw (alike_numbers wl a, alike_numbers wr b)

pub alike_ordered : (lo hi : ℕ) {t u : Tree} → Alike t u → Ordered lo hi t → Ordered lo hi u
unfolding Ordered
alike_ordered lo hi alike_leaf o = o
alike_ordered lo hi (alike_node {k = k} a b) o = (alike_ordered lo (suc k) a o.0, alike_ordered (suc k) hi b o.1)

pub alike_chromatic : (w : ℕ) {t u : Tree} → Alike t u → Chromatic w t → Chromatic w u
unfolding Chromatic
alike_chromatic w alike_leaf c = c
alike_chromatic w (alike_node {wl = wl} {wr = wr} a b) c =
    (omega (arith, c.0, alike_level a, alike_level b), alike_chromatic wl a c.1, alike_chromatic wr b c.2)

pub alike_good : {t u : Tree} → Alike t u → Good t → Good u
alike_good a g = record {
  ordered = alike_ordered _ _ a g.ordered;
  chromatic = alike_chromatic 1 a g.chromatic;
  low = omega (arith, alike_level a, g.low);
}

pub renumbered_alike : (s : ℕ) (t : Tree) → Alike t (renumbered s t)
unfolding renumbered
renumbered_alike s (leaf v k) = alike_leaf
renumbered_alike s (node v k wl l wr r) = alike_node (renumbered_alike (suc s) l) (renumbered_alike (suc s + size l) r)

-- Renumbered from s on, the tree has each of its slots once, and these are the `size t` slots from s on.
pub renumbered_below : (x s : ℕ) (t : Tree) → x < s → count x (renumbered s t) ≡ 0
unfolding renumbered count
renumbered_below x s (leaf v k) h = one_other x s (omega arith)
renumbered_below x s (node v k wl l wr r) h =
    omega (arith, one_other x s (omega arith), renumbered_below x (suc s) l (omega arith), renumbered_below x (suc s + size l) r (omega arith))

pub renumbered_above : (x s : ℕ) (t : Tree) → s + size t ≤ x → count x (renumbered s t) ≡ 0
unfolding renumbered count size
renumbered_above x s (leaf v k) h = one_other x s (omega arith)
renumbered_above x s (node v k wl l wr r) h =
    omega (arith, one_other x s (omega arith), renumbered_above x (suc s) l (omega arith), renumbered_above x (suc s + size l) r (omega arith))

pub renumbered_once : (x s : ℕ) (t : Tree) → s ≤ x → x < s + size t → count x (renumbered s t) ≡ 1
unfolding renumbered count size
renumbered_once x s (leaf v k) h i = one_same x s (omega arith)
renumbered_once x s (node v k wl l wr r) h i = same_or_not x s
    (λ e. omega (arith, one_same x s e, renumbered_below x (suc s) l (omega arith), renumbered_below x (suc s + size l) r (omega arith)))
    (λ n. go n (dec_lt x (suc s + size l)) (renumbered_once x (suc s) l) (renumbered_once x (suc s + size l) r))
  where
    go : x ≢ s → Dec (x < suc s + size l) → (suc s ≤ x → x < suc s + size l → count x (renumbered (suc s) l) ≡ 1)
        → (suc s + size l ≤ x → x < suc s + size l + size r → count x (renumbered (suc s + size l) r) ≡ 1)
        → count x (renumbered s (node v k wl l wr r)) ≡ 1
    go n (yes a) f g = omega (arith, one_other x s n, f (omega arith) a, renumbered_below x (suc s + size l) r a)
    go n (no a) f g = omega (arith, one_other x s n, renumbered_above x (suc s) l (omega arith), g (omega arith) (omega arith))

-- The same of a whole set, empty or not.
pub renumbered_like : (t : Top) → AlikeTop t (renumbered_top t)
unfolding renumbered_top
renumbered_like empty = alike_empty
renumbered_like (full t) = alike_full (renumbered_alike 1 t)

pub top_nodes : {t u : Top} → AlikeTop t u → nodes u ≡ nodes t
unfolding nodes
top_nodes alike_empty = refl
top_nodes (alike_full a) = alike_size a

pub top_level : {t u : Top} → AlikeTop t u → level_top u ≡ level_top t
unfolding level_top
top_level alike_empty = refl
top_level (alike_full a) = alike_level a

pub top_keys : {t u : Top} → AlikeTop t u → keys_of u ≡ keys_of t
unfolding keys_of
top_keys alike_empty = refl
top_keys (alike_full a) = alike_keys a

pub top_numbers_lem : {t u : Top} → AlikeTop t u → top_numbers u ≡ top_numbers t
unfolding top_numbers
top_numbers_lem alike_empty = refl
top_numbers_lem (alike_full a) = alike_numbers 1 a

pub top_good : {t u : Top} → AlikeTop t u → GoodTop t → GoodTop u
unfolding GoodTop
top_good alike_empty g = tt
top_good (alike_full a) g = alike_good a g

-- Being alike goes both ways and on.
tree_back : {t u : Tree} → Alike t u → Alike u t
tree_back alike_leaf = alike_leaf
tree_back (alike_node a b) = alike_node (tree_back a) (tree_back b)

tree_alike : {t u x : Tree} → Alike t u → Alike u x → Alike t x
tree_alike alike_leaf alike_leaf = alike_leaf
tree_alike (alike_node a b) (alike_node c d) = alike_node (tree_alike a c) (tree_alike b d)

pub alike_back : {t u : Top} → AlikeTop t u → AlikeTop u t
alike_back alike_empty = alike_empty
alike_back (alike_full a) = alike_full (tree_back a)

pub top_alike : {t u x : Top} → AlikeTop t u → AlikeTop u x → AlikeTop t x
top_alike alike_empty alike_empty = alike_empty
top_alike (alike_full a) (alike_full b) = alike_full (tree_alike a b)
