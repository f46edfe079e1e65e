-- The numbers of a sound State fit 32 bits, and its bytes are at most 7 for each node and 4 more: a weight is at most 255, so that twice
-- it plus 1 takes two bytes, as C and N do; a key takes five. Assumes nothing.
use mathlib.Core.Path.{◌≡◌}
use mathlib.Core.List.{List, [], ◌∷◌, ◌++◌}
use lib.ListN.{length, length-append}
use Prim.Native.Nat.{ℕ, suc, ◌+◌, ◌*◌, ◌/◌, ◌≤◌, ◌<◌}
use native.Mathlib.Omega.{arith}
use native.Mathlib.Decide.{dec_lt}
use Rattle.tree.specs.Codes.{most_level}
use Rattle.tree.specs.Tree.{Tree, leaf, node, size, level, Ordered, Chromatic}
use Rattle.tree.specs.State.{State, Top, empty, full, nodes, key_end, GoodTop, Sound}
use Rattle.tree.proofs.Order.{ordered_bounds}
use Rattle.tree.proofs.SoundStates.{sound_total}
use Rattle.numbers.specs.Shortest.{shortest, bytes_of}
use Rattle.numbers.proofs.Took.{shortest_last, shortest_more}
use Rattle.numbers.proofs.Putting.{bytes_most}
use Rattle.saved.specs.Saved.{tree_numbers, top_numbers, saved_numbers, bytes_of_all, saved_bytes}
use Rattle.saved.proofs.ReadLists.{Small, small_none, small_more, small_append, all_none, all_more, all_append}

two_bytes : (v : ℕ) → v < 16384 → length (bytes_of v) ≤ 2
unfolding bytes_of
two_bytes v h = go (dec_lt v 128)
  where
    go : Dec (v < 128) → length (shortest 4 v) ≤ 2
    go (yes i) = rw (shortest_last 4 v i) (omega arith)
    go (no i) = rw (shortest_more 3 v (omega arith), shortest_last 3 (v / 128) (omega arith)) (omega arith)

no_bytes : length (bytes_of_all []) ≡ 0
no_bytes = rw all_none

-- A node's two numbers.
pair_length : (a k : ℕ) (vs : List ℕ) → a < 16384 → length (bytes_of_all (a ∷ (k ∷ vs))) ≤ 7 + length (bytes_of_all vs)
pair_length a k vs h = rw (all_more a (k ∷ vs), all_more k vs, length-append, length-append) (omega (arith, two_bytes a h, bytes_most k))

pub node_length : (a k : ℕ) → a < 16384 → length (bytes_of_all (a ∷ (k ∷ []))) ≤ 7
node_length a k h = omega (arith, pair_length a k [] h, no_bytes)

pub tree_length : (w : ℕ) (t : Tree) → w + level t ≤ most_level + 1 → Chromatic w t → length (bytes_of_all (tree_numbers w t)) ≤ 7 * size t
unfolding tree_numbers size level Chromatic
tree_length w (leaf s k) h c = omega (arith, pair_length (2 * w) k [] (omega arith), no_bytes)
tree_length w (node s k wl l wr r) h c =
    let ls = tree_numbers wl l in
    let rs = tree_numbers wr r in
    let both : length (bytes_of_all (ls ++ rs)) ≡ length (bytes_of_all ls) + length (bytes_of_all rs) = rw (all_append ls rs, length-append) in
    omega (
      arith,
      pair_length (2 * w + 1) k (ls ++ rs) (omega arith),
      tree_length wl l (omega arith) c.1,
      tree_length wr r (omega arith) c.2,
    )

top_length : (t : Top) → GoodTop t → length (bytes_of_all (top_numbers t)) ≤ 7 * nodes t
unfolding top_numbers nodes GoodTop
top_length empty g = rw all_none (omega arith)
top_length (full t) g = tree_length 1 t (omega (arith, g.low)) g.chromatic

-- "at most 7N + 4 bytes"
pub saved_length : {S : State} → Sound S → length (saved_bytes S) ≤ 7 * nodes S.top + 4
unfolding saved_bytes saved_numbers
saved_length {S} sound =
    let total = sound_total sound in
    let vs = top_numbers S.top in
    rw (all_more S.slots (nodes S.top ∷ vs), all_more (nodes S.top) vs, length-append, length-append)
    (omega (arith, two_bytes S.slots (omega (arith, sound.few)), two_bytes (nodes S.top) (omega (arith, sound.few)), top_length S.top sound.good))

-- Every number of a sound State is a 32-bit number.
tree_small : (lo hi w : ℕ) (t : Tree) → hi ≤ key_end → w ≤ most_level → level t ≤ most_level → Ordered lo hi t → Chromatic w t → Small (tree_numbers w t)
unfolding tree_numbers level Ordered Chromatic
tree_small lo hi w (leaf s k) e h i o c = small_more {v = 2 * w} (omega arith) (small_more {v = k} (omega arith) small_none)
tree_small lo hi w (node s k wl l wr r) e h i o c =
    let b = ordered_bounds (suc k) hi r o.1 in
    small_more {v = 2 * w + 1} (omega arith) (small_more {v = k} (omega arith) (small_append
    (tree_small lo (suc k) wl l (omega arith) (omega arith) (omega arith) o.0 c.1)
    (tree_small (suc k) hi wr r e (omega arith) (omega arith) o.1 c.2)))

top_small : (t : Top) → GoodTop t → Small (top_numbers t)
unfolding top_numbers GoodTop
top_small empty g = small_none
top_small (full t) g = tree_small 0 key_end 1 t (omega arith) (omega arith) g.low g.ordered g.chromatic

pub saved_small : {S : State} → Sound S → Small (saved_numbers S)
unfolding saved_numbers
saved_small {S} sound =
    let total = sound_total sound in
    small_more {v = S.slots} (omega (arith, sound.few)) (small_more {v = nodes S.top} (omega (arith, sound.few)) (top_small S.top sound.good))
