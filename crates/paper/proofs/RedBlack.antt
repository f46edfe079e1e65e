-- Law 2: our trees are red-black, R = 0 and no overweighted edge, exactly when the paper's four conditions hold (`red_black_as_paper`): of
-- a chromatic tree, and a tree with the four conditions is chromatic (`red_black_is_chromatic`: "any red-black tree is a chromatic tree").
-- Why: by induction on the tree. Two red edges in a row lie on some path to a leaf, for below every node there is one. Assumes nothing.
use mathlib.Core.Path.{◌≡◌, refl}
use mathlib.Core.Logic.{◌↔◌, ◌≢◌, ◌⊎◌, inl, inr}
use mathlib.Core.List.{List, ◌∷◌}
use Prim.Native.Nat.{ℕ, zero, suc, ◌+◌, ◌≤◌}
use native.Mathlib.Omega.{arith}
use Rattle.tree.specs.Tree.{Tree, leaf, node, one, overweighted, Chromatic}
use Rattle.tree.specs.Distances.{if_red, for_red, conflicts, over_edges, RedBlack}
use Rattle.paper.specs.Paper.{FullTree, leaf_of, Red, Black, Side, Edge, to_left, to_right, Path, stay, down, weighted_length, TwoRed, these, further, RedBlackTree, ChromaticTree}
use Rattle.paper.specs.Ours.{forget}
use Rattle.paper.proofs.Paths.{LeafPath, leaf_path, level_of, first_path}
use Rattle.paper.proofs.Chromatic.{chromatic_as_paper}

pub red_black_is_chromatic : (T : FullTree) → RedBlackTree T → ChromaticTree T
red_black_is_chromatic T b = record { rb1 = λ p e z. omega (arith, b.b1 p e); rb2 = λ p q. b.b2 p q }

red_black_below : {s : Side} {w : ℕ} {v u : FullTree} → Edge s v w u → RedBlackTree v → RedBlackTree u
unfolding weighted_length
red_black_below {w} e b = record {
  b1 = λ p d. b.b1 (down e p) d;
  b2 = λ p q. omega (arith, b.b2 (down e p) (down e q));
  b3 = λ p r. b.b3 (down e p) (further r);
  b4 = λ p d. b.b4 (down e p) d;
}

-- B4 and overweighted edges
not_over : (w : ℕ) → one (overweighted w) ≡ 0 → Red w ⊎ Black w
unfolding one overweighted
not_over zero h = inl refl
not_over (suc zero) h = inr refl
not_over (suc (suc w)) h = absurd (omega arith)

is_light : (w : ℕ) → Red w ⊎ Black w → one (overweighted w) ≡ 0
unfolding one overweighted
is_light w (inl e) = rw e
is_light w (inr e) = rw e

light_edges : (t : Tree) {s : Side} {w : ℕ} {ws : List ℕ} {v u : FullTree} → over_edges t ≡ 0 → Path (forget t) ws v → Edge s v w u → Red w ⊎ Black w
unfolding over_edges forget
light_edges (leaf s k) o stay e = elim e [ ]
light_edges (leaf s k) o (down d p) e = elim d [ ]
light_edges (node s k wl l wr r) o stay to_left = not_over wl (omega arith)
light_edges (node s k wl l wr r) o stay to_right = not_over wr (omega arith)
light_edges (node s k wl l wr r) o (down to_left p) e = light_edges l (omega arith) p e
light_edges (node s k wl l wr r) o (down to_right p) e = light_edges r (omega arith) p e

none_over : (t : Tree) → RedBlackTree (forget t) → over_edges t ≡ 0
unfolding over_edges forget
none_over (leaf s k) b = refl
none_over (node s k wl l wr r) b =
    omega (
      arith,
      is_light wl (b.b4 stay to_left),
      is_light wr (b.b4 stay to_right),
      none_over l (red_black_below to_left b),
      none_over r (red_black_below to_right b),
    )

-- B3 and R
next_red : (t : Tree) {w : ℕ} {ws : List ℕ} {v : FullTree} → Path (forget t) (w ∷ ws) v → w ≡ 0 → 1 ≤ for_red 1 t
unfolding for_red if_red forget
next_red (leaf s k) (down e p) z = elim e [ ]
next_red (node s k wl l wr r) (down to_left p) z = rw z (omega arith)
next_red (node s k wl l wr r) (down to_right p) z = rw z (omega arith)

no_two_red : (t : Tree) {ws : List ℕ} {v : FullTree} → conflicts t ≡ 0 → Path (forget t) ws v → TwoRed ws → ⊥
unfolding conflicts if_red forget
no_two_red (leaf s k) c stay h = elim h [ ]
no_two_red (leaf s k) c (down e p) h = elim e [ ]
no_two_red (node s k wl l wr r) c stay h = elim h [ ]
no_two_red (node s k wl l wr r) c (down to_left p) (these a b) = omega (arith, next_red l p b, rw a at c)
no_two_red (node s k wl l wr r) c (down to_right p) (these a b) = omega (arith, next_red r p b, rw a at c)
no_two_red (node s k wl l wr r) c (down to_left p) (further h) = no_two_red l (omega arith) p h
no_two_red (node s k wl l wr r) c (down to_right p) (further h) = no_two_red r (omega arith) p h

-- below an edge of weight w
record NoTwoRed (w : ℕ) (T : FullTree) : Type 0 where
  none : {ws : List ℕ} {k : ℕ} → Path T ws (leaf_of k) → TwoRed (w ∷ ws) → ⊥

none_red : (w : ℕ) (t : Tree) → NoTwoRed w (forget t) → if_red w (for_red 1 t) ≡ 0
unfolding if_red for_red forget
none_red (suc w) t h = refl
none_red zero (leaf s k) h = refl
none_red zero (node s k zero l wr r) h = go (first_path (forget l))
  where
    go : LeafPath (forget l) (level_of (forget l)) → 1 + if_red wr 1 ≡ 0
    go (leaf_path p e) = absurd (h.none (down to_left p) (these refl refl))
none_red zero (node s k (suc wl) l zero r) h = go (first_path (forget r))
  where
    go : LeafPath (forget r) (level_of (forget r)) → ◌≡◌ {A = ℕ} (0 + 1) 0
    go (leaf_path p e) = absurd (h.none (down to_right p) (these refl refl))
none_red zero (node s k (suc wl) l (suc wr) r) h = refl

no_conflicts : (t : Tree) → RedBlackTree (forget t) → conflicts t ≡ 0
unfolding conflicts forget
no_conflicts (leaf s k) b = refl
no_conflicts (node s k wl l wr r) b =
    omega (
      arith,
      none_red wl l (record { none = λ p h. b.b3 (down to_left p) h }),
      none_red wr r (record { none = λ p h. b.b3 (down to_right p) h }),
      no_conflicts l (red_black_below to_left b),
      no_conflicts r (red_black_below to_right b),
    )

not_red_black : (w : ℕ) → w ≢ 0 → Red w ⊎ Black w → Black w
not_red_black w n (inl e) = absurd (n e)
not_red_black w n (inr e) = e

pub red_black_as_paper : (t : Tree) → (Chromatic 1 t × RedBlack t) ↔ RedBlackTree (forget t)
red_black_as_paper t = (
  λ h.
      let c = (chromatic_as_paper t).0 h.0 in
      let light = h.1.no_overweight in
      record {
        b1 = λ p e. not_red_black _ (c.rb1 p e) (light_edges t light p e);
        b2 = λ p q. c.rb2 p q;
        b3 = λ p r. no_two_red t h.1.no_conflict p r;
        b4 = λ p e. light_edges t light p e;
      },
  λ b. ((chromatic_as_paper t).1 (red_black_is_chromatic (forget t) b), record { no_conflict = no_conflicts t b; no_overweight = none_over t b }),
)
