-- A set's numbers, place by place. They are the bytes of the numbers one after the other (`tree_reads`, `reads_tree`); from a place on there is
-- at most one tree, its slots aside (`one_tree`). Assumes nothing.
use mathlib.Core.Path.{◌≡◌}
use mathlib.Core.List.{List}
use mathlib.Core.Logic.{◌≢◌}
use Prim.Native.Nat.{ℕ, ◌/◌, ◌%◌}
use native.Mathlib.Omega.{arith}
use Rattle.tree.specs.Tree.{Tree, leaf, node}
use Rattle.tree.specs.State.{Top, empty, full}
use Rattle.encoding.specs.Numbers.{number}
use Rattle.std.specs.Prelude.{Ok}
use Rattle.encoding.proofs.Readings.{one_read}
use Rattle.saved.specs.Saved.{tree_numbers, top_numbers, Alike, alike_leaf, alike_node}
use Rattle.saved.specs.There.{TreeAt, leaf_at_case, node_at, TopAt, none_at, tree_at}
use Rattle.saved.specs.Misread.{Reads, reads_none, reads_more}
use Rattle.saved.proofs.ReadLists.{reads_append, reads_parts}

module _ {bytes : List ℕ} where
  pub tree_reads : {i j w : ℕ} {t : Tree} → TreeAt bytes i w t j → Reads bytes i (tree_numbers w t) j
  unfolding tree_numbers
  tree_reads (leaf_at_case e f) = reads_more e (reads_more f reads_none)
  tree_reads (node_at e f a b) = reads_more e (reads_more f (reads_append (tree_reads a) (tree_reads b)))

  pub reads_tree : (w : ℕ) (t : Tree) {i j : ℕ} → Reads bytes i (tree_numbers w t) j → TreeAt bytes i w t j
  unfolding tree_numbers
  reads_tree w (leaf s k) (reads_more e (reads_more f reads_none)) = leaf_at_case {w = w} e f
  reads_tree w (node s k wl l wr r) (reads_more e (reads_more f rest)) =
      let p = reads_parts (tree_numbers wl l) rest in
      node_at {w = w} e f (reads_tree wl l p.1) (reads_tree wr r p.2)

  pub top_reads : {i j : ℕ} {t : Top} → TopAt bytes i t j → Reads bytes i (top_numbers t) j
  unfolding top_numbers
  top_reads none_at = reads_none
  top_reads (tree_at a) = tree_reads a

  pub reads_top : (t : Top) {i j : ℕ} → Reads bytes i (top_numbers t) j → TopAt bytes i t j
  unfolding top_numbers
  reads_top empty reads_none = none_at
  reads_top (full t) r = tree_at (reads_tree 1 t r)

-- What stands where two numbers were read: an even first number is a leaf's, an odd one an inner node's, over two trees after it.
pub record LeafAt (k j w n : ℕ) (t : Tree) : Type 0 where
  pub v : ℕ
  pub tree_is : t ≡ leaf v k
  pub end_is : n ≡ j

pub record NodeAt (bytes : List ℕ) (k j w n : ℕ) (t : Tree) : Type 0 where
  pub v : ℕ
  pub wl : ℕ
  pub wr : ℕ
  pub l : Tree
  pub r : Tree
  pub m : ℕ
  pub left_there : TreeAt bytes j wl l m
  pub right_there : TreeAt bytes m wr r n
  pub tree_is : t ≡ node v k wl l wr r

module _ {bytes : List ℕ} {i a m k j : ℕ} (first : number bytes i ≡ Ok (a, m)) (second : number bytes m ≡ Ok (k, j)) where
  pub first_weight : {w n : ℕ} {t : Tree} → TreeAt bytes i w t n → w ≡ a / 2
  first_weight {w} (leaf_at_case e f) = omega (arith, (one_read e first).0)
  first_weight {w} (node_at e f x y) = omega (arith, (one_read e first).0)

  pub leaf_here : {w n : ℕ} {t : Tree} → a % 2 ≡ 0 → TreeAt bytes i w t n → LeafAt k j w n t
  leaf_here {w} even (leaf_at_case {s = v} e f) =
      let y = one_read (rw (one_read e first).1 at f) second in record { v = v; tree_is = rw y.0; end_is = y.1 }
  leaf_here {w} even (node_at e f x y) = absurd (omega (arith, (one_read e first).0))

  pub node_here : {w n : ℕ} {t : Tree} → a % 2 ≢ 0 → TreeAt bytes i w t n → NodeAt bytes k j w n t
  node_here {w} odd (leaf_at_case e f) = absurd (odd (omega (arith, (one_read e first).0)))
  node_here {w} odd (node_at {b = b} {s = v} {wl = wl} {wr = wr} {l = l} {r = r} e f x y) =
      let z = one_read (rw (one_read e first).1 at f) second in
      record { v = v; wl = wl; wr = wr; l = l; r = r; m = b; left_there = rw z.1 at x; right_there = y; tree_is = rw z.0 }

-- the tree that stands at a place: its edge's weight, its end, and it but for its slots
pub record Same (w v : ℕ) (t u : Tree) (j n : ℕ) : Type 0 where
  pub weight_same : w ≡ v
  pub tree_same : Alike t u
  pub end_same : j ≡ n

same_node : {s v k d wl xl wr xr : ℕ} {l m r q : Tree} → k ≡ d → wl ≡ xl → wr ≡ xr → Alike l m → Alike r q → Alike (node s k wl l wr r) (node v d xl m xr q)
same_node e f g a b = rw (e, f, g) (alike_node a b)

module _ {bytes : List ℕ} where
  pub one_tree : {i j n w v : ℕ} {t u : Tree} → TreeAt bytes i w t j → TreeAt bytes i v u n → Same w v t u j n
  one_tree {w = w} {v = v} (leaf_at_case e f) (leaf_at_case e' f') =
      let a = one_read e e' in
      let b = one_read f (rw (← a.1) at f') in
      record { weight_same = omega (arith, a.0); tree_same = rw (← b.0) alike_leaf; end_same = b.1 }
  one_tree {w = w} {v = v} (leaf_at_case e f) (node_at e' f' a b) = absurd (omega (arith, (one_read e e').0))
  one_tree {w = w} {v = v} (node_at e f a b) (leaf_at_case e' f') = absurd (omega (arith, (one_read e e').0))
  one_tree {w = w} {v = v} (node_at e f a b) (node_at e' f' a' b') =
      let x = one_read e e' in
      let y = one_read f (rw (← x.1) at f') in
      let l = one_tree a (rw (← y.1) at a') in
      let r = one_tree b (rw (← l.end_same) at b') in
      record {
        weight_same = omega (arith, x.0);
        tree_same = same_node y.0 l.weight_same r.weight_same l.tree_same r.tree_same;
        end_same = r.end_same;
      }
