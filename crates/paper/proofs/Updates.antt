-- Law 5: insert and delete are the paper's insertion and deletion, once slots are forgotten, on trees of two leaves or more: the tree they
-- leave is the one that Section 3 allows, and it allows no other (`insert_as_paper`, `delete_as_paper`). A key that is found, or not found,
-- leaves the tree as it is, in both. Two things of 01's stand aside: code 7, and the empty and one-leaf trees, which "Source 003 skips".
-- Why: by induction on `Ins` and `Del`, which read like Section 3; where a search ends, the paper's weights are ours. Assumes nothing.
use mathlib.Core.Path.{◌≡◌, refl, sym, ap}
use mathlib.Core.Logic.{◌↔◌, ◌≢◌}
use mathlib.Core.Bool.{false, false≢true}
use native.Mathlib.Omega.{arith}
use Prim.Native.Nat.{ℕ, zero, suc, pred, ◌+◌, ◌≤◌, ◌<◌, min, max}
use Rattle.tree.specs.declared.Refusal.TheVariants.{NoRoom}
use Rattle.tree.specs.declared.Answer.TheVariants.{Refused}
use Rattle.tree.specs.Tree.{Tree, leaf, node, is_leaf, Chromatic}
use Rattle.tree.specs.Updates.{reach, reached_key, moved_to, insert_at, Cut, cut}
use Rattle.tree.specs.State.{State, full, Sound, Outcome, insert, delete}
use Rattle.tree.proofs.Tests.{either_way}
use Rattle.tree.proofs.Reach.{reach_left, reach_right}
use Rattle.tree.proofs.SoundStates.{tree_good}
use Rattle.tree.proofs.Insert.{Ins, insert_at_is}
use Rattle.tree.proofs.Insert as Insert
use Rattle.tree.proofs.Delete.{Del, cut_left, cut_right}
use Rattle.tree.proofs.Delete as Delete
use Rattle.tree.proofs.Updated.{Inserting, is_there, no_first, no_two, as_first, beside, inserting, Deleting, from_none, not_there, the_last, one_of, deleting}
use Rattle.paper.specs.Paper.{FullTree, leaf_of, internal, Parent, root, edge, Insertion, found, smaller, greater, joined, Deletion, not_found, left_removed, right_removed}
use Rattle.paper.specs.Ours.{forget}
use Rattle.paper.specs.Paper as Paper
use Rattle.paper.proofs.Places.{weight_of, reweighed, reweighed_same, edges_same, OnlyTree}

-- Where the search ends goes down with the search.
ends_left : (x v k wl wr : ℕ) (l r : Tree) (P : ℕ → Type 0) → x ≤ k → P (reached_key x (node v k wl l wr r)) → P (reached_key x l)
unfolding reached_key
ends_left x v k wl wr l r P h e = rw (reach_left x v k wl wr l r h, reached_key) at e

ends_right : (x v k wl wr : ℕ) (l r : Tree) (P : ℕ → Type 0) → k < x → P (reached_key x (node v k wl l wr r)) → P (reached_key x r)
unfolding reached_key
ends_right x v k wl wr l r P h e = rw (reach_right x v k wl wr l r h, reached_key) at e

-- Insertion: where the key is found,
insertion_found : (x : ℕ) (p : Parent) (t : Tree) → reached_key x t ≡ x → Insertion x p (forget t) p (forget t)
unfolding forget reached_key reach
insertion_found x p (leaf v k) e = found (sym e)
insertion_found x p (node v k wl l wr r) e = either_way x k
    (λ h. Paper.Insertion.in_left h (insertion_found x (edge wl) l (ends_left x v k wl wr l r (λ y. y ≡ x) h e)))
    (λ h. Paper.Insertion.in_right h (insertion_found x (edge wr) r (ends_right x v k wl wr l r (λ y. y ≡ x) h e)))

-- and where not.
insertion_leaf : (x w k : ℕ) → 1 ≤ w → k ≢ x → Insertion x (edge w) (leaf_of k) (edge (pred w)) (internal (min x k) 1 (leaf_of (min x k)) 1 (leaf_of (max x k)))
insertion_leaf x zero k h n = absurd (omega arith)
insertion_leaf x (suc w) k h n = either_way x k
    (λ i. let e : min x k ≡ x = omega arith in let f : max x k ≡ k = omega arith in rw (e, f) (let j : x < k = omega arith in smaller j))
    (λ i. let e : min x k ≡ k = omega arith in let f : max x k ≡ x = omega arith in rw (e, f) (greater i))

module _ {x a b : ℕ} where
  insertion_below : {w q : ℕ} {t u : Tree} → Ins x a b w t q u → Chromatic w t → reached_key x t ≢ x → Insertion x (edge w) (forget t) (edge q) (forget u)
  unfolding forget Chromatic reached_key reach
  insertion_below (Insert.Ins.at_leaf {w} {v} {k}) c n = insertion_leaf x w k c n
  insertion_below (Insert.Ins.in_left {v} {k} {wl} {wr} {l} {r} h i) c n =
      Paper.Insertion.in_left h (insertion_below i c.1 (ends_left x v k wl wr l r (λ y. y ≢ x) h n))
  insertion_below (Insert.Ins.in_right {v} {k} {wl} {wr} {l} {r} h i) c n =
      Paper.Insertion.in_right h (insertion_below i c.2 (ends_right x v k wl wr l r (λ y. y ≢ x) h n))

  insertion_whole : {q : ℕ} {t u : Tree} → Ins x a b 1 t q u → Chromatic 1 t → is_leaf t ≡ false → reached_key x t ≢ x
      → Insertion x root (forget t) root (forget u)
  unfolding forget Chromatic is_leaf
  insertion_whole Insert.Ins.at_leaf c z n = absurd (false≢true (sym z))
  insertion_whole (Insert.Ins.in_left {v} {k} {wl} {wr} {l} {r} h i) c z n =
      Paper.Insertion.in_left h (insertion_below i c.1 (ends_left x v k wl wr l r (λ y. y ≢ x) h n))
  insertion_whole (Insert.Ins.in_right {v} {k} {wl} {wr} {l} {r} h i) c z n =
      Paper.Insertion.in_right h (insertion_below i c.2 (ends_right x v k wl wr l r (λ y. y ≢ x) h n))

-- Section 3 allows one tree.
pub one_insertion : {x : ℕ} {p q q₁ : Parent} {T T' T₁ : FullTree} → Insertion x p T q T' → Insertion x p T q₁ T₁ → (q ≡ q₁) × (T' ≡ T₁)
one_insertion (Paper.Insertion.in_left h i) (Paper.Insertion.in_left g j) = let e = one_insertion i j in (refl, rw (edges_same e.0, e.1))
one_insertion (Paper.Insertion.in_left h i) (Paper.Insertion.in_right g j) = absurd (omega arith)
one_insertion (Paper.Insertion.in_right h i) (Paper.Insertion.in_left g j) = absurd (omega arith)
one_insertion (Paper.Insertion.in_right h i) (Paper.Insertion.in_right g j) = let e = one_insertion i j in (refl, rw (edges_same e.0, e.1))
one_insertion (found h) (found g) = (refl, refl)
one_insertion (found h) (smaller g) = absurd (omega arith)
one_insertion (found h) (greater g) = absurd (omega arith)
one_insertion (smaller h) (found g) = absurd (omega arith)
one_insertion (smaller h) (smaller g) = (refl, refl)
one_insertion (smaller h) (greater g) = absurd (omega arith)
one_insertion (greater h) (found g) = absurd (omega arith)
one_insertion (greater h) (smaller g) = absurd (omega arith)
one_insertion (greater h) (greater g) = (refl, refl)

pub insert_as_paper : (x : ℕ) (S : State) → Sound S → (t : Tree) → S.top ≡ full t → is_leaf t ≡ false → (insert x S).answer ≢ Refused NoRoom
    → OnlyTree (λ T. Insertion x root (forget t) root T) (insert x S).after
insert_as_paper x S g t e z m = go (inserting x S g) m
  where
    only : (u : Tree) → Insertion x root (forget t) root (forget u) → (T : FullTree) → Insertion x root (forget t) root T ↔ (T ≡ forget u)
    only u i T = (λ j. (one_insertion j i).1, λ f. rw f i)

    go : {o : Outcome} → Inserting x S o → o.answer ≢ Refused NoRoom → OnlyTree (λ T. Insertion x root (forget t) root T) o.after
    go (is_there {t = v} d f i) n =
        let same : v ≡ t = cc in record { tree = t; there = e; only = only t (insertion_found x root t (rw same at f)) }
    go (no_first d f i) n = absurd (n refl)
    go (no_two d f k i) n = absurd (n refl)
    go (as_first d f i) n = let y : ◌≡◌ {A = ℕ} 0 1 = cc in absurd (omega arith)
    go (beside {t = v} {a} {b} d f k i) n =
        let same : v ≡ t = cc in
        let u = (insert_at x a b 1 v).1 in
        record {
          tree = u;
          there = refl;
          only = only u (rw (sym same) (insertion_whole (insert_at_is x a b 1 v) (tree_good S v g d).chromatic (rw (sym same) at z) k));
        }

-- Deletion: where the key is not found,
deletion_none : (x : ℕ) (p : Parent) (t : Tree) → reached_key x t ≢ x → Deletion x p (forget t) p (forget t)
unfolding forget reached_key reach
deletion_none x p (leaf v k) n = not_found (λ e. n (sym e))
deletion_none x p (node v k wl l wr r) n = either_way x k
    (λ h. Paper.Deletion.in_left h (deletion_none x (edge wl) l (ends_left x v k wl wr l r (λ y. y ≢ x) h n)))
    (λ h. Paper.Deletion.in_right h (deletion_none x (edge wr) r (ends_right x v k wl wr l r (λ y. y ≢ x) h n)))

-- and where it is.
forget_moved : (v : ℕ) (t : Tree) → forget (moved_to v t) ≡ forget t
unfolding forget moved_to
forget_moved v (leaf s k) = refl
forget_moved v (node s k wl l wr r) = refl

joined_sum : (w : ℕ) (p : Parent) → reweighed p (weight_of p + w) ≡ joined w p
unfolding weight_of reweighed joined
joined_sum w root = refl
joined_sum w (edge p) = ap edge (omega arith)

-- `w` is the weight of what the tree hangs from: `Del` is gone down, so its weight is a variable of its own.
deletion_from : {x w : ℕ} {t : Tree} {c : Cut} (p : Parent) → Del x w t c → w ≡ weight_of p → Deletion x p (forget t) (reweighed p c.weight) (forget c.tree)
unfolding forget cut weight_of reweighed
deletion_from p (cut_left {v} {wr} {r} h) e = rw (e, joined_sum wr p, forget_moved v r) (left_removed h)
deletion_from p (cut_right {v} {wl} {l} h) e = rw (e, joined_sum wl p, forget_moved v l) (right_removed h)
deletion_from p (Delete.Del.in_left {wl} h d) e = rw (e, reweighed_same p) (Paper.Deletion.in_left h (deletion_from (edge wl) d refl))
deletion_from p (Delete.Del.in_right {wr} h d) e = rw (e, reweighed_same p) (Paper.Deletion.in_right h (deletion_from (edge wr) d refl))

deletion_whole : {x : ℕ} {t : Tree} {c : Cut} (p : Parent) → Del x (weight_of p) t c → Deletion x p (forget t) (reweighed p c.weight) (forget c.tree)
deletion_whole p d = deletion_from p d refl

-- The key stands twice, as x and as y: where a leaf is removed both are the leaf's.
one_deletion_of : {x y : ℕ} {p q q₁ : Parent} {T T' T₁ : FullTree} → x ≡ y → Deletion x p T q T' → Deletion y p T q₁ T₁ → (q ≡ q₁) × (T' ≡ T₁)
one_deletion_of e (not_found h) (not_found g) = (refl, refl)
one_deletion_of e (Paper.Deletion.in_left h i) (Paper.Deletion.in_left g j) = let o = one_deletion_of e i j in (refl, rw (edges_same o.0, o.1))
one_deletion_of e (Paper.Deletion.in_left h i) (Paper.Deletion.in_right g j) = absurd (omega arith)
one_deletion_of e (Paper.Deletion.in_left h (not_found n)) (left_removed g) = absurd (n e)
one_deletion_of e (Paper.Deletion.in_left h i) (right_removed g) = absurd (omega arith)
one_deletion_of e (Paper.Deletion.in_right h i) (Paper.Deletion.in_left g j) = absurd (omega arith)
one_deletion_of e (Paper.Deletion.in_right h i) (Paper.Deletion.in_right g j) = let o = one_deletion_of e i j in (refl, rw (edges_same o.0, o.1))
one_deletion_of e (Paper.Deletion.in_right h i) (left_removed g) = absurd (omega arith)
one_deletion_of e (Paper.Deletion.in_right h (not_found n)) (right_removed g) = absurd (n e)
one_deletion_of e (left_removed h) (Paper.Deletion.in_left g (not_found n)) = absurd (n (sym e))
one_deletion_of e (left_removed h) (Paper.Deletion.in_right g j) = absurd (omega arith)
one_deletion_of e (left_removed h) (left_removed g) = (refl, refl)
one_deletion_of e (left_removed h) (right_removed g) = absurd (omega arith)
one_deletion_of e (right_removed h) (Paper.Deletion.in_left g j) = absurd (omega arith)
one_deletion_of e (right_removed h) (Paper.Deletion.in_right g (not_found n)) = absurd (n (sym e))
one_deletion_of e (right_removed h) (left_removed g) = absurd (omega arith)
one_deletion_of e (right_removed h) (right_removed g) = (refl, refl)

pub one_deletion : {x : ℕ} {p q q₁ : Parent} {T T' T₁ : FullTree} → Deletion x p T q T' → Deletion x p T q₁ T₁ → (q ≡ q₁) × (T' ≡ T₁)
one_deletion h g = one_deletion_of refl h g

pub delete_as_paper : (x : ℕ) (S : State) → Sound S → (t : Tree) → S.top ≡ full t → is_leaf t ≡ false
    → OnlyTree (λ T. Deletion x root (forget t) root T) (delete x S).after
unfolding is_leaf weight_of reweighed
delete_as_paper x S g t e z = go (deleting x S g)
  where
    only : (u : Tree) → Deletion x root (forget t) root (forget u) → (T : FullTree) → Deletion x root (forget t) root T ↔ (T ≡ forget u)
    only u i T = (λ j. (one_deletion j i).1, λ f. rw f i)

    go : {o : Outcome} → Deleting x S o → OnlyTree (λ T. Deletion x root (forget t) root T) o.after
    go (from_none d i) = let y : ◌≡◌ {A = ℕ} 0 1 = cc in absurd (omega arith)
    go (not_there {t = v} d n i) =
        let same : v ≡ t = cc in record { tree = t; there = e; only = only t (deletion_none x root t (rw same at n)) }
    go (the_last {s} d i) = let same : t ≡ leaf s x = cc in absurd (false≢true (sym (rw same at z)))
    go (one_of {t = v} {c} d i h) =
        let same : v ≡ t = cc in
        record { tree = c.tree; there = refl; only = only c.tree (rw (sym same) (deletion_whole root h)) }
