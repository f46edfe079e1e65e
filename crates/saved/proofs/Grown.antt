-- Writing a tree as numbers and reading it: the numbers of a tree grow the tree renumbered, and what numbers grow is written as them.
-- Assumes nothing.
use mathlib.Core.Path.{◌≡◌, refl, ap, sym, ◌∙◌}
use mathlib.Core.Logic.{◌≢◌}
use mathlib.Core.Bool.{Bool, true, false}
use mathlib.Core.List.{List, [], ◌∷◌, ◌++◌, append_assoc}
use mathlib.Core.Option.{Option, none, some}
use lib.Dec.{eqb}
use lib.ListN.{length, length-append}
use Prim.Native.Nat.{ℕ, zero, suc, ◌+◌, ◌*◌, ◌/◌, ◌%◌, ◌≤◌}
use native.Mathlib.Omega.{arith}
use borrow.Author.Tests.{eqb-true, eqb-false, eq-eqb, ne_eqb}
use Rattle.tree.specs.Tree.{Tree, leaf, node, size}
use Rattle.tree.specs.Tree.{depth}
use Rattle.tree.proofs.Depth.{depth_pos}
use Rattle.saved.specs.Saved.{tree_numbers, renumbered}
use Rattle.saved.specs.Loaded.{Grown, grown, tree_from}
use Rattle.saved.proofs.Alike.{alike_size, renumbered_alike}

-- treeFrom, case by case
module _ (left s a k : ℕ) (vs : List ℕ) where
  pub grow_leaf : a % 2 ≡ 0 → tree_from (suc left) s (a ∷ (k ∷ vs)) ≡ some (grown (a / 2) (leaf s k) vs)
  unfolding tree_from
  grow_leaf e = rw (eq-eqb _ 0 e, tree_from)

  module _ (odd : a % 2 ≢ 0) where
    no_left : tree_from left (suc s) vs ≡ none → tree_from (suc left) s (a ∷ (k ∷ vs)) ≡ none
    unfolding tree_from
    no_left e = rw (ne_eqb _ 0 odd, e, tree_from)

    no_right : {l : Grown} → tree_from left (suc s) vs ≡ some l → tree_from left (suc s + size l.tree) l.rest ≡ none
        → tree_from (suc left) s (a ∷ (k ∷ vs)) ≡ none
    unfolding tree_from
    no_right e f = rw (ne_eqb _ 0 odd, e, f, tree_from)

    pub grow_node : {l r : Grown} → tree_from left (suc s) vs ≡ some l → tree_from left (suc s + size l.tree) l.rest ≡ some r
        → tree_from (suc left) s (a ∷ (k ∷ vs)) ≡ some (grown (a / 2) (node s k l.weight l.tree r.weight r.tree) r.rest)
    unfolding tree_from
    grow_node e f = rw (ne_eqb _ 0 odd, e, f, tree_from)

-- The numbers of a tree grow it anew, whatever stands after them.
pub tree_read : (left s w : ℕ) (t : Tree) (vs : List ℕ) → depth t ≤ left
    → tree_from left s (tree_numbers w t ++ vs) ≡ some (grown w (renumbered s t) vs)
unfolding tree_numbers renumbered depth
tree_read zero s w t vs h = absurd (omega (arith, depth_pos t))
tree_read (suc left) s w (leaf v k) vs h =
    let e : 2 * w / 2 ≡ w = omega arith in
    grow_leaf left s (2 * w) k vs (omega arith) ∙ rw e
tree_read (suc left) s w (node v k wl l wr r) vs h =
    let e : (2 * w + 1) / 2 ≡ w = omega arith in
    let first = tree_read left (suc s) wl l (tree_numbers wr r ++ vs) (omega arith) in
    let same : size (renumbered (suc s) l) ≡ size l = alike_size (renumbered_alike (suc s) l) in
    let second : tree_from left (suc s + size (renumbered (suc s) l)) (tree_numbers wr r ++ vs) ≡ some (grown wr (renumbered (suc s + size l) r) vs) =
    rw same (tree_read left (suc s + size l) wr r vs (omega arith)) in
    rw append_assoc (grow_node left s (2 * w + 1) k (tree_numbers wl l ++ (tree_numbers wr r ++ vs)) (λ z. omega arith) first second ∙ rw e)

-- What numbers grow is written as them, and is numbered from s on.
pub record Grew (s : ℕ) (vs : List ℕ) (g : Grown) : Type 0 where
  pub written : vs ≡ tree_numbers g.weight g.tree ++ g.rest
  pub numbered : renumbered s g.tree ≡ g.tree

abbrev pub GrewSays : ℕ → List ℕ → Option Grown → Type 0
GrewSays s vs none = Unit {0}
GrewSays s vs (some g) = Grew s vs g

grew_leaf : (s a k : ℕ) (vs : List ℕ) → a % 2 ≡ 0 → Grew s (a ∷ (k ∷ vs)) (grown (a / 2) (leaf s k) vs)
unfolding tree_numbers renumbered
grew_leaf s a k vs e = let f : 2 * (a / 2) ≡ a = omega arith in record { written = rw f; numbered = refl }

grew_node : (s a k : ℕ) (vs : List ℕ) (l r : Grown) → a % 2 ≢ 0 → Grew (suc s) vs l → Grew (suc s + size l.tree) l.rest r
    → Grew s (a ∷ (k ∷ vs)) (grown (a / 2) (node s k l.weight l.tree r.weight r.tree) r.rest)
unfolding tree_numbers renumbered
grew_node s a k vs l r odd f g =
    let e : 2 * (a / 2) + 1 ≡ a = omega arith in
    let ls = tree_numbers l.weight l.tree in
    let rs = tree_numbers r.weight r.tree in
    let whole : vs ≡ ls ++ rs ++ r.rest = f.written ∙ (ap (λ (x : List ℕ). ls ++ x) g.written ∙ sym (append_assoc ls rs r.rest)) in
    record { written = rw e (ap (λ (x : List ℕ). a ∷ (k ∷ x)) whole); numbered = rw (f.numbered, g.numbered) }

pub tree_grew : (left s : ℕ) (vs : List ℕ) → GrewSays s vs (tree_from left s vs)
unfolding tree_from
tree_grew zero s vs = tt
tree_grew (suc left) s [] = tt
tree_grew (suc left) s (a ∷ []) = tt
tree_grew (suc left) s (a ∷ (k ∷ vs)) = go (eqb (a % 2) 0) refl (tree_grew left)
  where
    Says : Type 0
    Says = GrewSays s (a ∷ (k ∷ vs)) (tree_from (suc left) s (a ∷ (k ∷ vs)))

    right : a % 2 ≢ 0 → (l : Grown) → tree_from left (suc s) vs ≡ some l → Grew (suc s) vs l
        → (x : Option Grown) → tree_from left (suc s + size l.tree) l.rest ≡ x → GrewSays (suc s + size l.tree) l.rest x → Says
    right odd l e f none d g = rw (no_right left s a k vs odd e d) tt
    right odd l e f (some r) d g = rw (grow_node left s a k vs odd e d) (grew_node s a k vs l r odd f g)

    both : a % 2 ≢ 0 → ((s : ℕ) (vs : List ℕ) → GrewSays s vs (tree_from left s vs)) → (x : Option Grown) → tree_from left (suc s) vs ≡ x
        → GrewSays (suc s) vs x → Says
    both odd f none e g = rw (no_left left s a k vs odd e) tt
    both odd f (some l) e g = right odd l e g (tree_from left (suc s + size l.tree) l.rest) refl (f (suc s + size l.tree) l.rest)

    go : (b : Bool) → eqb (a % 2) 0 ≡ b → ((s : ℕ) (vs : List ℕ) → GrewSays s vs (tree_from left s vs)) → Says
    go true e f = rw (grow_leaf left s a k vs (eqb-true _ _ e)) (grew_leaf s a k vs (eqb-true _ _ e))
    go false e f = both (eqb-false _ _ e) f (tree_from left (suc s) vs) refl (f (suc s) vs)

-- Two numbers for each node.
pub numbers_length : (w : ℕ) (t : Tree) → length (tree_numbers w t) ≡ 2 * size t
unfolding tree_numbers size
numbers_length w (leaf s k) = refl
numbers_length w (node s k wl l wr r) =
    omega (arith, length-append (tree_numbers wl l) (tree_numbers wr r), numbers_length wl l, numbers_length wr r)
