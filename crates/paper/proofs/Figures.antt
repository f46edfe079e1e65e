-- What the paper reads from its figures, which we do not have, holds of specs/Paper.antt: Lemma 1, "Let T be a chromatic tree and assume
-- that any one of the transformations given in Definition 3 is applied to T. Then the transformed tree T' is a chromatic tree"
-- (`rebalancing_chromatic`), for "the weighted lengths of the paths from the root to the leaves remain the same". This is said of the paper's
-- cases as they are, without 01's narrowing.
-- Why: slots may be put on any tree of the paper's (`slotted`), and then a case is a kind of ours. Where the parent edge is red, Cases 2 and
-- 3 are done as at the root: they do not look at it. Assumes nothing.
use mathlib.Core.Path.{◌≡◌, refl, sym, ap, ◌∙◌}
use mathlib.Core.Logic.{◌≢◌}
use mathlib.Core.List.{List}
use native.Mathlib.Omega.{arith}
use Prim.Native.Nat.{ℕ, ◌+◌}
use Rattle.tree.specs.declared.Kind.{Kind}
use Rattle.tree.specs.Tree.{Tree, leaf, node, Chromatic}
use Rattle.tree.specs.Kinds.{effect}
use Rattle.tree.proofs.Relation.{Local}
use Rattle.tree.proofs.Steps.{local_sound}
use Rattle.tree.proofs.StepLevels.{local_level, local_chromatic}
use Rattle.paper.specs.Paper.{FullTree, leaf_of, internal, Side, Edge, to_left, to_right, Parent, root, edge, Conflict, Case, case1, case2, case3, case4, case5, NotRedAbove, Applies, applies1, applies2, applies3, applies4, applies5, transformed, parent_after, Rebalancing, ChromaticTree}
use Rattle.paper.specs.Ours.{forget, Is, Narrowed}
use Rattle.paper.specs.Paper as Paper
use Rattle.paper.proofs.Paths.{level_of, Even, even_tree, even_from}
use Rattle.paper.proofs.Chromatic.{level_forget, chromatic_even, even_chromatic}
use Rattle.paper.proofs.Places.{weight_of, reweighed, edges_same}
use Rattle.paper.proofs.Accepts.{every_case, local_as_paper}
use Rattle.paper.proofs.Effects.{effect_tree, effect_parent}

-- slots put on a tree: any, for here they do not count
unfoldable slotted : FullTree → Tree
slotted (leaf_of k) = leaf 0 k
slotted (internal k wl l wr r) = node 0 k wl (slotted l) wr (slotted r)

forget_slotted : (T : FullTree) → forget (slotted T) ≡ T
unfolding forget slotted
forget_slotted (leaf_of k) = refl
forget_slotted (internal k wl l wr r) = rw (forget_slotted l, forget_slotted r)

-- Before and after, of trees that hang from edges of these weights: the sum to the leaves stays, and T' is even there.
record Kept (w : ℕ) (T : FullTree) (w' : ℕ) (T' : FullTree) : Type 0 where
  same : w' + level_of T' ≡ w + level_of T
  even : Even w' T'

-- At v, narrowed: our kind
kept_by_kind : {k : Kind} {c : Case} {s : Side} {w x : ℕ} {u u' : Tree} (v : FullTree) → forget u ≡ v → Chromatic w u → Local k w u x u' → Is k c s
    → Kept w v x (transformed c s v)
kept_by_kind {x} {u} {u'} v e ch l is =
    rw (rw e at (effect_tree l is)) (record {
      same = omega (arith, local_level l, level_forget u', level_forget u, ap level_of e);
      even = chromatic_even x u' (local_chromatic l ch);
    })

-- what v hangs from is an edge, of weight x afterwards
record KeptAt (c : Case) (s : Side) (w : ℕ) (v : FullTree) : Type 0 where
  weight : ℕ
  kept : Kept w v weight (transformed c s v)
  parent : parent_after c (edge w) ≡ edge weight

kept_narrowed : (c : Case) (s : Side) (w : ℕ) (v : FullTree) → Conflict v → Applies c s (edge w) v → Narrowed c (edge w) → Even w v → KeptAt c s w v
unfolding weight_of reweighed
kept_narrowed c s w v f a n e =
    let k = every_case c s in
    let u = slotted v in
    let same = forget_slotted v in
    let ch = even_chromatic w u (rw same e) in
    let o = (local_as_paper k.0 (edge w) u ch).1 (record { case = c; side = s; is = k.1; conflict = rw same f; applies = rw same a; narrowed = n }) in
    let l = local_sound k.0 w u ch o in
    record { weight = (effect k.0 w u).0; kept = kept_by_kind v same ch l k.1; parent = effect_parent (edge w) l k.1 refl }

-- an edge that is not red below v: v has a level
some_level : (w : ℕ) {s : Side} {b : ℕ} {v u : FullTree} → Edge s v b u → b ≢ 0 → Even w v → level_of v ≢ 0
unfolding Even level_of
some_level w to_left n e = omega arith
some_level w to_right n e = omega arith

rehung : (w x : ℕ) (T : FullTree) → level_of T ≢ 0 → Even w T → Even x T
unfolding Even level_of
rehung w x (leaf_of k) n e = absurd (n refl)
rehung w x (internal k wl l wr r) n e = e

-- Cases 2 and 3 leave the parent edge as it is: as well as from one of weight 1
kept_anyhow : (c : Case) (s : Side) (w : ℕ) (v : FullTree) → parent_after c (edge 1) ≡ edge 1 → parent_after c (edge w) ≡ edge w → level_of v ≢ 0 → Even w v
    → KeptAt c s 1 v → KeptAt c s w v
kept_anyhow c s w v f g n e h =
    let k = h.kept in
    let one : 1 ≡ h.weight = edges_same (sym f ∙ h.parent) in
    let level : level_of (transformed c s v) ≡ level_of v = omega (arith, k.same) in
    record {
      weight = w;
      kept = record { same = omega arith; even = rehung h.weight w (transformed c s v) (λ z. n (sym level ∙ z)) k.even };
      parent = g;
    }

kept_at : {c : Case} {s : Side} (w : ℕ) (v : FullTree) → Conflict v → Applies c s (edge w) v → Even w v → KeptAt c s w v
unfolding Narrowed parent_after NotRedAbove
kept_at {s} w v f (applies1 e a d b n) h = kept_narrowed case1 s w v f (applies1 e a d b n) tt h
kept_at {s} w v f (applies2 e a d b g r) h =
    let n = some_level w d b h in
    kept_anyhow case2 s w v refl refl n h (kept_narrowed case2 s 1 v f (applies2 e a d b g r) (λ z. omega arith) (rehung w 1 v n h))
kept_at {s} w v f (applies3 e a d b g r) h =
    let n = some_level w d b h in
    kept_anyhow case3 s w v refl refl n h (kept_narrowed case3 s 1 v f (applies3 e a d b g r) (λ z. omega arith) (rehung w 1 v n h))
kept_at {s} w v f (applies4 e a d b) h = kept_narrowed case4 s w v f (applies4 e a d b) tt h
kept_at {s} w v f (applies5 e a d b g r) h = kept_narrowed case5 s w v f (applies5 e a d b g r) tt h

-- Below an edge: "the weighted lengths of the paths [..] remain the same".
kept_below : {c : Case} {s : Side} {way : List Side} {p q : Parent} {T T' : FullTree} (w : ℕ) → Rebalancing c s way p T q T' → p ≡ edge w → Even w T
    → Kept w T (weight_of q) T'
unfolding weight_of Even level_of
kept_below {c} {s} w (Paper.Rebalancing.here {v} f a) i e =
    let k = kept_at w v f (rw i at a) e in
    let j : weight_of (parent_after c (edge w)) ≡ k.weight = ap weight_of k.parent in
    rw (i, j) k.kept
kept_below w (Paper.Rebalancing.in_left {wl} h) i e =
    let k = kept_below wl h refl e.1 in
    rw i (record { same = omega (arith, k.same); even = (omega (arith, k.same), k.even, e.2) })
kept_below w (Paper.Rebalancing.in_right {wr} h) i e =
    let k = kept_below wr h refl e.2 in
    rw i (record { same = refl; even = (omega (arith, k.same), e.1, k.even) })

-- The root has no parent edge: it may as well hang from one of weight 1.
from_one : {c : Case} {s : Side} {v : FullTree} → Applies c s root v → Applies c s (edge 1) v
unfolding NotRedAbove
from_one (applies1 e a d b n) = applies1 {p = edge 1} e a d b (λ z. omega arith)
from_one (applies2 e a d b g r) = applies2 e a d b g r
from_one (applies3 e a d b g r) = applies3 e a d b g r
from_one (applies4 e a d b) = applies4 e a d b
from_one (applies5 e a d b g r) = applies5 e a d b g r

-- Lemma 1
pub rebalancing_chromatic : {c : Case} {s : Side} {way : List Side} {q : Parent} {T T' : FullTree} → Rebalancing c s way root T q T' → ChromaticTree T
    → ChromaticTree T'
unfolding weight_of Even
rebalancing_chromatic {T = S} h c = go h refl (even_from 1 S (λ k e z. omega arith) c)
  where
    go : {c : Case} {s : Side} {way : List Side} {p q : Parent} {T T' : FullTree} → Rebalancing c s way p T q T' → p ≡ root → Even 1 T → ChromaticTree T'
    go {T'} (Paper.Rebalancing.here {v} f a) i e = let k = kept_at 1 v f (from_one (rw i at a)) e in even_tree k.weight T' k.kept.even
    go {T'} (Paper.Rebalancing.in_left {wl} h) i e =
        let k = kept_below wl h refl e.1 in even_tree 1 T' (omega (arith, k.same), k.even, e.2)
    go {T'} (Paper.Rebalancing.in_right {wr} h) i e =
        let k = kept_below wr h refl e.2 in even_tree 1 T' (omega (arith, k.same), e.1, k.even)
