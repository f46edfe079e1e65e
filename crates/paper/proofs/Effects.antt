-- Law 4: what a step makes is what the paper's case makes, once slots are forgotten, of the whole tree, whether the node is the root or not:
-- that tree is the one that Definition 3 allows, and it allows no other (`effect_as_paper`; of the command, `step_as_paper`). And every
-- transformation of Definition 3, narrowed as 01 says, is such a step (`case_is_step`). At one node: `effect_tree`, `effect_parent`.
-- Why: form by form, by computing; a mirrored form mirrors each subtree twice. In the whole tree by going down the way to the slot: no
-- slot stands twice, so the change passes the other subtrees by. Assumes nothing.
use mathlib.Core.Path.{◌≡◌, refl, sym, ap}
use mathlib.Core.Logic.{◌↔◌}
use mathlib.Core.Bool.{true, false≢true}
use mathlib.Core.List.{List, []}
use borrow.Author.Tests.{eq-eqb}
use native.Mathlib.Omega.{arith}
use Prim.Native.Nat.{ℕ, ◌≤◌}
use Rattle.tree.specs.declared.Kind.{Kind}
use Rattle.tree.specs.Tree.{Tree, leaf, node, slot_of, count, Chromatic}
use Rattle.tree.specs.Kinds.{condition, effect, change_at, condition_at, stepped}
use Rattle.tree.specs.State.{State, full, Sound, Outcome, step}
use Rattle.tree.proofs.Counts.{is_other}
use Rattle.tree.proofs.Relation.{Local, blacken, single_left_case, single_right_case, double_left_case, double_right_case, lighten_left_child, lighten_right_child, lighten_left_case, lighten_right_case}
use Rattle.tree.proofs.Steps.{local_sound, at_count, change_at_absent}
use Rattle.tree.proofs.StepState.{tree_good, tree_once, accepted_outcome}
use Rattle.paper.specs.Paper.{FullTree, leaf_of, internal, Side, left, right, Parent, root, edge, Conflict, Case, Applies, mirror, rotated, double_rotated, black_children, lighter_children, lighter_below, left_form, transformed, parent_after, Rebalancing}
use Rattle.paper.specs.Ours.{forget, Stands, Is, kind1, kind2, kind3, kind4, kind5, kind6, kind7, kind8, Narrowed}
use Rattle.paper.specs.Paper as Paper
use Rattle.paper.specs.Ours as Ours
use Rattle.paper.proofs.Places.{weight_of, reweighed, reweighed_same, edges_same, stands_at, stands_chromatic, OnlyTree}
use Rattle.paper.proofs.Accepts.{FitsAt, local_as_paper, every_case, condition_as_paper, AcceptedAsPaper, ours_accepted}

mirror_twice : (T : FullTree) → mirror (mirror T) ≡ T
unfolding mirror
mirror_twice (leaf_of k) = refl
mirror_twice (internal k wl l wr r) = rw (mirror_twice l, mirror_twice r)

-- At one node
pub effect_tree : {k : Kind} {c : Case} {s : Side} {w x : ℕ} {u u' : Tree} → Local k w u x u' → Is k c s → transformed c s (forget u) ≡ forget u'
unfolding forget transformed left_form mirror rotated double_rotated black_children lighter_children lighter_below
effect_tree (blacken h) (kind1 {s = left}) = refl
effect_tree (blacken {l} {r} h) (kind1 {s = right}) = rw (mirror_twice (forget l), mirror_twice (forget r))
effect_tree single_left_case kind2 = refl
effect_tree (single_right_case {a} {b} {l}) kind3 = rw (mirror_twice (forget a), mirror_twice (forget b), mirror_twice (forget l))
effect_tree double_left_case kind4 = refl
effect_tree (double_right_case {a} {b} {c} {l}) kind5 = rw (mirror_twice (forget a), mirror_twice (forget b), mirror_twice (forget c), mirror_twice (forget l))
effect_tree lighten_left_child (kind6 {s = left}) = refl
effect_tree (lighten_left_child {l} {r}) (kind6 {s = right}) = rw (mirror_twice (forget l), mirror_twice (forget r))
effect_tree lighten_right_child (kind6 {s = left}) = refl
effect_tree (lighten_right_child {l} {r}) (kind6 {s = right}) = rw (mirror_twice (forget l), mirror_twice (forget r))
effect_tree (lighten_left_case {t} {a} {b}) kind7 = rw (mirror_twice (forget t), mirror_twice (forget a), mirror_twice (forget b))
effect_tree (lighten_right_case {t} {a} {b}) kind8 =
    rw (mirror_twice (forget t), mirror_twice (forget a), mirror_twice (forget b)) (rw (mirror_twice (forget t), mirror_twice (forget a), mirror_twice (forget b)))

pub effect_parent : {k : Kind} {c : Case} {s : Side} {w x : ℕ} {u u' : Tree} (p : Parent) → Local k w u x u' → Is k c s → weight_of p ≡ w
    → parent_after c p ≡ reweighed p x
unfolding weight_of parent_after reweighed
effect_parent root h is e = refl
effect_parent (edge p) (blacken h) kind1 e = rw e
effect_parent (edge p) single_left_case kind2 e = rw e
effect_parent (edge p) single_right_case kind3 e = rw e
effect_parent (edge p) double_left_case kind4 e = rw e
effect_parent (edge p) double_right_case kind5 e = rw e
effect_parent (edge p) lighten_left_child kind6 e = rw e
effect_parent (edge p) lighten_right_child kind6 e = rw e
effect_parent (edge p) lighten_left_case kind7 e = rw e
effect_parent (edge p) lighten_right_case kind8 e = rw e

-- In the whole tree
rebalances : {k : Kind} {c : Case} {d : Side} {s : ℕ} {u t : Tree} {way : List Side} {p q : Parent} → Is k c d → Stands s u way p t q → count s t ≤ 1
    → Chromatic (weight_of p) t → condition k (weight_of q) u ≡ true → Conflict (forget u) → Applies c d q (forget u)
    → Rebalancing c d way p (forget t) (reweighed p (change_at (effect k) s (weight_of p) t).0) (forget (change_at (effect k) s (weight_of p) t).1)
unfolding count condition Chromatic change_at slot_of forget weight_of reweighed
rebalances {k} {c} {d} {s} {u} {p} is (Ours.Stands.here e) n ch h x a = go u e ch h x a
  where
    go : (u : Tree) → slot_of u ≡ s → Chromatic (weight_of p) u → condition k (weight_of p) u ≡ true → Conflict (forget u) → Applies c d p (forget u)
        → Rebalancing c d [] p (forget u) (reweighed p (change_at (effect k) s (weight_of p) u).0) (forget (change_at (effect k) s (weight_of p) u).1)
    go (leaf v i) e ch h x a = absurd (false≢true h)
    go (node v i wl l wr r) e ch h x a =
        let w = node v i wl l wr r in
        let o = local_sound k (weight_of p) w ch h in
        rw (eq-eqb s v (sym e), change_at) (rw (sym (effect_parent p o is refl), sym (effect_tree o is)) (Paper.Rebalancing.here x a))
rebalances {k} {s} {p} is (Ours.Stands.in_left {v} {wr} {r} b) n ch h x a =
    let m = at_count (stands_at b) in
    rw (is_other s v (omega arith), change_at, change_at_absent (effect k) s wr r (omega arith), reweighed_same p)
    (Paper.Rebalancing.in_left (rebalances is b (omega arith) ch.1 h x a))
rebalances {k} {s} {p} is (Ours.Stands.in_right {v} {wl} {l} b) n ch h x a =
    let m = at_count (stands_at b) in
    rw (is_other s v (omega arith), change_at, change_at_absent (effect k) s wl l (omega arith), reweighed_same p)
    (Paper.Rebalancing.in_right (rebalances is b (omega arith) ch.2 h x a))

-- Definition 3 allows one tree.
pub one_tree : {c : Case} {d : Side} {way : List Side} {p q q₁ : Parent} {T T' T₁ : FullTree} → Rebalancing c d way p T q T' → Rebalancing c d way p T q₁ T₁
    → (q ≡ q₁) × (T' ≡ T₁)
one_tree (Paper.Rebalancing.here x a) (Paper.Rebalancing.here y b) = (refl, refl)
one_tree (Paper.Rebalancing.in_left h) (Paper.Rebalancing.in_left g) = let e = one_tree h g in (refl, rw (edges_same e.0, e.1))
one_tree (Paper.Rebalancing.in_right h) (Paper.Rebalancing.in_right g) = let e = one_tree h g in (refl, rw (edges_same e.0, e.1))

pub effect_as_paper : (k : Kind) (s : ℕ) (t : Tree) → Chromatic 1 t → count s t ≤ 1 → (f : FitsAt k s t) (T : FullTree)
    → Rebalancing f.fits.case f.fits.side f.way root (forget t) root T ↔ (T ≡ forget (stepped k s t))
unfolding stepped weight_of reweighed
effect_as_paper k s t c n f T =
    let g = f.fits in
    let h = (local_as_paper k f.parent f.subtree (stands_chromatic f.stands c)).1 g in
    let r = rebalances g.is f.stands n c h g.conflict g.applies in
    (λ x. (one_tree x r).1, λ e. rw e r)

-- The command: an accepted step leaves just that tree.
pub step_as_paper : (s n : ℕ) (S : State) → Sound S → (t : Tree) → S.top ≡ full t → (m : ℕ) (a : AcceptedAsPaper s n m t)
    → OnlyTree (λ T. Rebalancing a.fits_at.fits.case a.fits_at.fits.side a.fits_at.way root (forget t) root T) (step s n S).after
step_as_paper s n S h t e m a =
    let c = (tree_good S t h e).chromatic in
    let o = tree_once S t h e s in
    let b = accepted_outcome s n S h t e m (ours_accepted s n m t c o a) in
    record { tree = stepped a.kind s t; there = ap (λ (x : Outcome). x.after.top) b; only = effect_as_paper a.kind s t c o a.fits_at }

-- The other way round: every transformation of the paper's is at some slot of ours,
pub record CaseAt (c : Case) (d : Side) (way : List Side) (p : Parent) (t : Tree) : Type 0 where
  pub slot : ℕ
  pub subtree : Tree
  pub parent : Parent
  pub stands : Stands slot subtree way p t parent
  pub conflict : Conflict (forget subtree)
  pub applies : Applies c d parent (forget subtree)

pub case_at : {c : Case} {d : Side} {way : List Side} {p q : Parent} (t : Tree) {T : FullTree} → Rebalancing c d way p (forget t) q T → CaseAt c d way p t
unfolding forget slot_of
case_at {p} (leaf s k) (Paper.Rebalancing.here x a) =
    record { slot = s; subtree = leaf s k; parent = p; stands = Ours.Stands.here refl; conflict = x; applies = a }
case_at {p} (node s k wl l wr r) (Paper.Rebalancing.here x a) =
    record { slot = s; subtree = node s k wl l wr r; parent = p; stands = Ours.Stands.here refl; conflict = x; applies = a }
case_at (node s k wl l wr r) (Paper.Rebalancing.in_left h) =
    let b = case_at l h in
    record { slot = b.slot; subtree = b.subtree; parent = b.parent; stands = Ours.Stands.in_left b.stands; conflict = b.conflict; applies = b.applies }
case_at (node s k wl l wr r) (Paper.Rebalancing.in_right h) =
    let b = case_at r h in
    record { slot = b.slot; subtree = b.subtree; parent = b.parent; stands = Ours.Stands.in_right b.stands; conflict = b.conflict; applies = b.applies }

-- and narrowed as 01 says, it is the step of a kind there.
pub case_is_step : {c : Case} {d : Side} {way : List Side} {T : FullTree} (t : Tree) → Chromatic 1 t → ((s : ℕ) → count s t ≤ 1)
    → (r : Rebalancing c d way root (forget t) root T) → Narrowed c (case_at t r).parent
    → (condition_at (every_case c d).0 (case_at t r).slot t ≡ true) × (T ≡ forget (stepped (every_case c d).0 (case_at t r).slot t))
case_is_step {c} {d} {way} {T} t ch n r m =
    let b = case_at t r in
    let k = every_case c d in
    let f : FitsAt k.0 b.slot t = record {
      way = way;
      parent = b.parent;
      subtree = b.subtree;
      stands = b.stands;
      fits = record { case = c; side = d; is = k.1; conflict = b.conflict; applies = b.applies; narrowed = m };
    } in
    ((condition_as_paper k.0 b.slot t ch (n b.slot)).1 f, (effect_as_paper k.0 b.slot t ch (n b.slot) f T).0 r)
