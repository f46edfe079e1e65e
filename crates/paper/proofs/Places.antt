-- Where a slot stands, by its way from the root. What a node hangs from has a weight in ours too: 01, "The root's is 1" (`weight_of`).
-- A slot that stands in a tree once has one such place (`stands_at`, `at_stands`), and what hangs there is chromatic (`stands_chromatic`).
-- By going down the way. Assumes nothing.
use mathlib.Core.Path.{◌≡◌, refl, sym, ap}
use mathlib.Core.Logic.{◌↔◌}
use mathlib.Core.List.{List}
use Prim.Native.Nat.{ℕ, suc}
use native.Mathlib.Omega.{arith}
use Rattle.tree.specs.Tree.{Tree, node, Chromatic}
use Rattle.tree.specs.State.{State, full}
use Rattle.tree.proofs.Steps.{At, at_root, at_left, at_right}
use Rattle.paper.specs.Paper.{FullTree, Side, Parent, root, edge, NotRedAbove}
use Rattle.paper.specs.Ours.{forget, Stands, here, in_left, in_right}

unfoldable pub weight_of : Parent → ℕ
weight_of root = 1
weight_of (edge w) = w

-- what a tree hangs from, once the edge to it weighs w; the root hangs from nothing
unfoldable pub reweighed : Parent → ℕ → Parent
reweighed root w = root
reweighed (edge p) w = edge w

pub reweighed_same : (p : Parent) → reweighed p (weight_of p) ≡ p
unfolding reweighed weight_of
reweighed_same root = refl
reweighed_same (edge w) = refl

pub edges_same : {a b : ℕ} → edge a ≡ edge b → a ≡ b
unfolding weight_of
edges_same e = ap weight_of e

-- "The root is not red."
pub not_red_above : (p : Parent) (w : ℕ) → weight_of p ≡ suc w → NotRedAbove p
unfolding weight_of NotRedAbove
not_red_above root w e = tt
not_red_above (edge p) w e = omega arith

pub stands_at : {s : ℕ} {u t : Tree} {way : List Side} {p q : Parent} → Stands s u way p t q → At s (weight_of q) u (weight_of p) t
unfolding weight_of
stands_at (here e) = at_root (sym e)
stands_at (in_left h) = at_left (stands_at h)
stands_at (in_right h) = at_right (stands_at h)

pub data Standing (s w : ℕ) (u : Tree) (p : Parent) (t : Tree) : Type 0 where
  standing : {way : List Side} {q : Parent} → Stands s u way p t q → weight_of q ≡ w → Standing s w u p t

pub at_stands : {s w : ℕ} {u : Tree} {x : ℕ} {t : Tree} → At s w u x t → (p : Parent) → weight_of p ≡ x → Standing s w u p t
unfolding weight_of
at_stands (at_root e) p f = standing (here (sym e)) f
at_stands {s} {w} {u} (at_left {v} {i} {wl} {wr} {l} {r} a) p f = go (at_stands a (edge wl) refl)
  where
    go : Standing s w u (edge wl) l → Standing s w u p (node v i wl l wr r)
    go (standing h g) = standing (in_left h) g
at_stands {s} {w} {u} (at_right {v} {i} {wl} {wr} {l} {r} a) p f = go (at_stands a (edge wr) refl)
  where
    go : Standing s w u (edge wr) r → Standing s w u p (node v i wl l wr r)
    go (standing h g) = standing (in_right h) g

pub stands_chromatic : {s : ℕ} {u t : Tree} {way : List Side} {p q : Parent} → Stands s u way p t q → Chromatic (weight_of p) t → Chromatic (weight_of q) u
unfolding weight_of Chromatic
stands_chromatic (here e) c = c
stands_chromatic (in_left h) c = stands_chromatic h c.1
stands_chromatic (in_right h) c = stands_chromatic h c.2

-- The tree of a State, once slots are forgotten, is one that is allowed, and no other is.
pub record OnlyTree (allowed : FullTree → Type 0) (S : State) : Type 0 where
  pub tree : Tree
  pub there : S.top ≡ full tree
  pub only : (T : FullTree) → allowed T ↔ (T ≡ forget tree)
