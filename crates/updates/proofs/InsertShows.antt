-- Insert under a header, on words that show a sound State, answers as document 01's insert does and leaves a header and words that
-- show its State (`insert_shows`); the entry of a pool leaves a pool that shows it (`insert_entry`).
-- Why: the two slots taken are free ones, so the three slots that are written are apart, and no other slot of the tree or of the rest
-- of the chain is among them. The tree is the old one with one subtree replaced, v's leaf by the new inner node (`insert_in`). The
-- sums do not wrap, for a sound pool has at most 16,383 nodes. The search ends at the root only where that is a leaf, so L becomes 1 with
-- the second key and else stays (`insert_level`). Assumes nothing.
use Rattle.std.proofs.Common.{◌≡◌, ℕ, pred, ◌+◌, ◌<◌, ◌≤◌, min, max, ◌≢◌, List, [], ◌∷◌, length, sym, refl, ap, ◌∙◌, arith, eq-eqb, ne_eqb, le-leb}
use borrow.Author.Tests.{lt-leb}
use Rattle.tree.specs.declared.Answer.TheVariants.{Done}
use Rattle.tree.specs.declared.Refusal.TheVariants.{KeyPresent, NoRoom}
use Rattle.tree.specs.Tree.{Tree, leaf, node, slot_of, is_leaf, size, one, count, count_in, level, Chromatic}
use Rattle.tree.specs.Updates.{reach, reached_slot, reached_key, insert_at, new_slot}
use Rattle.tree.specs.State.{State, state, empty, full, nodes, level_top, Good, GoodTop, Sound, Outcome, gives, refuses, insert}
use Rattle.tree.proofs.Tests.{either_way}
use Rattle.tree.proofs.Updated.{Inserting, is_there, no_first, no_two, as_first, beside, inserting}
use Rattle.tree.proofs.Search.{search_leaf, leaf_slot_case}
use Rattle.tree.proofs.Insert.{Ins, at_leaf, in_left as ins-left, in_right as ins-right, insert_at_is, insert_size, insert_root_lem, insert_root_level}
use Rattle.format.specs.declared.Header.{Header}
use Rattle.format.specs.declared.Slot.{Slot}
use Rattle.format.specs.Words.{header, slot, put_slot, head_of, root_of, shown_header}
use Rattle.format.specs.Shows.{holds_leaf, holds_node, HoldsTop, Shows, PoolShows}
use Rattle.format.proofs.Slots.{header_eq, slot_length}
use Rattle.tree.proofs.Counts.{one_same}
use Rattle.format.proofs.Frame.{chain_other, at_written}
use Rattle.format.proofs.Writes.{Wrote, nothing_yet, and_at, last, before, wrote_length, wrote_other, got, chain_kept}
use Rattle.format.proofs.Replace.{In, top, in_left, in_right, in_count, replace}
use Rattle.format.proofs.Shown.{FirstFree, chain_first, placed_once, sound_once, shows_tree, shows_free}
use Rattle.tree.proofs.SoundStates.{sound_total}
use Rattle.format.proofs.Performing.{Does, does_refused, does_done, does_pool}
use Rattle.updates.specs.Updating.{new_leaf, by_root, taken, split, insert_root, insert_beside, insert_at_leaf, insert_under, insert_words, insert_answer}
use Rattle.updates.proofs.Ways.{reached_weight, reached_at}
use Rattle.updates.proofs.ByRoot.{by_root_lem, by_below}
use Rattle.updates.proofs.RootLevels.{level_inserted}
use Rattle.updates.proofs.SearchShows.{root_empty, root_some, way_shows, leaf_shows}

-- the inner node that v becomes
abbrev new_node : (x a b v k : ℕ) → Tree
new_node x a b v k = node v (min x k) 1 (leaf a (min x k)) 1 (leaf b (max x k))

-- The search in a tree of more than one leaf ends below the root.
below_root : (x v k wl wr : ℕ) (l r : Tree) → ((s : ℕ) → count s (node v k wl l wr r) ≤ 1) → v ≢ reached_slot x (node v k wl l wr r)
unfolding reached_slot reach count
below_root x v k wl wr l r c = either_way x k
    (λ h. rw (le-leb x k h, reached_slot, reach) (λ e. omega (arith, c v, one_same v v refl, rw (sym e) at (leaf_slot_case (search_leaf x l)))))
    (λ h. rw (lt-leb x k h, reached_slot, reach) (λ e. omega (arith, c v, one_same v v refl, rw (sym e) at (leaf_slot_case (search_leaf x r)))))

-- The new tree is the old one with v's leaf replaced,
module _ {x a b : ℕ} where
  insert_in : {w q : ℕ} {t u : Tree} → Ins x a b w t q u
      → In (reached_weight x w t) (leaf (reached_slot x t) (reached_key x t)) (pred (reached_weight x w t)) (new_node x a b (reached_slot x t) (reached_key x t)) w t q u
  unfolding reached_weight reached_slot reached_key reach
  insert_in at_leaf = top
  insert_in (ins-left {k} h i) = rw (le-leb x k h, reached_weight, reached_slot, reached_key, reach) (in_left (insert_in i))
  insert_in (ins-right {k} h i) = rw (lt-leb x k h, reached_weight, reached_slot, reached_key, reach) (in_right (insert_in i))

  -- also where v is the root and keeps its 1.
  insert_in_root : {q : ℕ} {t u : Tree} → Ins x a b 1 t q u → ((s : ℕ) → count s t ≤ 1)
      → In (reached_weight x 1 t) (leaf (reached_slot x t) (reached_key x t))
      (by_root (slot_of t) (reached_slot x t) 1 (pred (reached_weight x 1 t))) (new_node x a b (reached_slot x t) (reached_key x t)) 1 t 1 u
  unfolding reached_weight reached_slot reached_key reach slot_of
  insert_in_root (at_leaf {v}) c = rw (by_root_lem v _ _) top
  insert_in_root (ins-left {v} {k} {wl} {wr} {l} {r} h i) c =
      rw (by_below v _ _ _ (below_root x v k wl wr l r c), le-leb x k h, reached_weight, reached_slot, reached_key, reach) (in_left (insert_in i))
  insert_in_root (ins-right {v} {k} {wl} {wr} {l} {r} h i) c =
      rw (by_below v _ _ _ (below_root x v k wl wr l r c), lt-leb x k h, reached_weight, reached_slot, reached_key, reach) (in_right (insert_in i))

  -- The second key makes L 1, and no other changes it.
  insert_level : {q : ℕ} {t u : Tree} → Ins x a b 1 t q u → Chromatic 1 t → ((s : ℕ) → count s t ≤ 1)
      → level_inserted (slot_of t) (reached_slot x t) (level t) ≡ level u
  unfolding reached_slot reach slot_of level one is_leaf
  insert_level (at_leaf {v}) e c = by_root_lem v _ _
  insert_level (ins-left {v} {k} {wl} {wr} {l} {r} h i) e c =
      by_below v _ _ _ (below_root x v k wl wr l r c) ∙ omega (arith, insert_root_level (ins-left h i) e)
  insert_level (ins-right {v} {k} {wl} {wr} {l} {r} h i) e c =
      by_below v _ _ _ (below_root x v k wl wr l r c) ∙ omega (arith, insert_root_level (ins-right h i) e)

-- The chain's head, which is taken first.
head_is : {h : Header} {p : List ℕ} {S : State} {fs : List ℕ} → Shows h p S → S.free ≡ fs → h.free ≡ head_of fs
head_is s e = shows_free s ∙ ap head_of e

head : {h : Header} {p : List ℕ} {S : State} {a : ℕ} {fs : List ℕ} → Shows h p S → S.free ≡ a ∷ fs → FirstFree p a fs
head s e = chain_first (rw e at s.chain_held)

-- Beside a leaf. 7 "fewer free slots than needed (1 if empty, else 2)".
beside_refused : {h : Header} {p : List ℕ} {S : State} (v : ℕ) (c : Slot) (x : ℕ) → Shows h p S → length S.free < 2 → Does (insert_beside p h v c x) (refuses NoRoom S)
unfolding insert_beside taken
beside_refused {h} {p} {S} v c x s few = go S.free refl
  where
    go : (fs : List ℕ) → S.free ≡ fs → Does (insert_beside p h v c x) (refuses NoRoom S)
    go [] e = rw (eq-eqb _ _ (head_is s e), insert_beside) (does_refused NoRoom s)
    go (a ∷ []) e =
        let first = (head s e).first in
        let n : h.free ≢ 0 = λ z. omega (arith, head_is s e, first.from_one) in
        let next : (taken p h).free ≡ 0 = rw (head_is s e, first.content) in
        rw (ne_eqb _ _ n, insert_beside, eq-eqb _ _ next) (does_refused NoRoom s)
    go (a ∷ (b ∷ fs)) e = absurd (omega (arith, ap length e))

-- Where two slots are free: what the three writes leave.
beside_does : {h : Header} {p : List ℕ} {S : State} {t : Tree} {a b : ℕ} {fs : List ℕ} (x : ℕ) → Sound S → Shows h p S → S.top ≡ full t → S.free ≡ a ∷ (b ∷ fs)
    → Does (insert_beside p h (reached_slot x t) (slot (reached_key x t) 0 0 (reached_weight x 1 t)) x)
    (gives (Done (new_slot x (reached_key x t) a b)) (state S.slots (full (insert_at x a b 1 t).1) fs))
unfolding insert_beside taken split count_in count slot_of shown_header root_of nodes level_top GoodTop HoldsTop
beside_does {h} {p} {t = t} {a} {b} {fs} x g s tree_is free_is =
    let v = reached_slot x t in
    let k = reached_key x t in
    let inner = slot (min x k) a b (by_root (slot_of t) v 1 (pred (reached_weight x 1 t))) in
    let i = insert_at_is x a b 1 t in
    let once : (y : ℕ) → count y t + count_in y (a ∷ b ∷ fs) ≤ 1 = λ y. rw free_is at (placed_once g tree_is y) in
    let apart : (y : ℕ) → count_in y (v ∷ b ∷ a ∷ []) + count_in y fs ≤ 1 = λ y. omega (arith, once y, in_count y (insert_in i)) in
    let held = shows_tree s tree_is in
    let good : Good t = rw tree_is at g.good in
    let one = head s free_is in
    let two = chain_first one.rest in
    let was : h ≡ header (slot_of t) a (size t) (level t) = rw (tree_is, free_is) at s.header_is in
    let na : a ≢ 0 = λ e. omega (arith, one.first.from_one) in
    let nb : b ≢ 0 = λ e. omega (arith, two.first.from_one) in
    let w : Wrote p ((v, inner) ∷ (b, new_leaf (max x k)) ∷ (a, new_leaf (min x k)) ∷ []) _ = and_at (and_at (and_at nothing_yet)) in
    rw was (rw (ne_eqb a 0 na, insert_beside, one.first.content, ne_eqb b 0 nb) (rw (one.first.content, two.first.content) (
    does_done _ _ _ _ (wrote_length w ∙ s.length_is)
    (header_eq (sym (insert_root_lem i)) refl (omega (arith, insert_size i, sound_total g, ap nodes tree_is, g.few)) (insert_level i good.chromatic (λ y. omega (arith, once y))))
    (replace (insert_in_root i (λ y. omega (arith, once y))) refl (λ y. omega (arith, once y)) (wrote_length w)
    (λ y j n. wrote_other w y (omega (arith, once y)))
    held
    (holds_node (got w (reached_at x held) last (omega (arith, apart v)))
    (holds_leaf (got w one.first (before (before last)) (omega (arith, apart a))))
    (holds_leaf (got w two.first (before last) (omega (arith, apart b))))))
    (chain_kept w two.rest apart))))

-- Into an empty tree.
root_does : {h : Header} {p : List ℕ} {S : State} {a : ℕ} {fs : List ℕ} (x : ℕ) → Sound S → Shows h p S → S.top ≡ empty → S.free ≡ a ∷ fs
    → Does (insert_root p h x) (gives (Done a) (state S.slots (full (leaf a x)) fs))
unfolding insert_root taken count_in shown_header root_of nodes level_top slot_of size level HoldsTop
root_does {h} {p} {S} {a} {fs} x g s e f =
    let one = head s f in
    let new = new_leaf x in
    let was : h ≡ header 0 a 0 0 = rw (e, f) at s.header_is in
    let n : a ≢ 0 = λ z. omega (arith, one.first.from_one) in
    rw was (rw (ne_eqb a 0 n, insert_root, one.first.content) (
    does_done (put_slot p a new) a _ _ (slot_length p a new ∙ s.length_is) refl (holds_leaf (at_written one.first new))
    (chain_other one.rest a new (omega (arith, rw f at (sound_once g a), one_same a a refl)))))

pub insert_shows : {h : Header} {p : List ℕ} {S : State} (x : ℕ) → Sound S → Shows h p S → Does (insert_under p h x) (insert x S)
unfolding insert_under insert_at_leaf insert_root
insert_shows {h} {p} {S} x g s = go (inserting x S g)
  where
    to_leaf : {t : Tree} → S.top ≡ full t → insert_under p h x ≡ insert_at_leaf p h (reached_slot x t) x
    to_leaf e = rw (ne_eqb _ _ (root_some s e), insert_under, way_shows s e x g)

    go : {o : Outcome} → Inserting x S o → Does (insert_under p h x) o
    go (is_there e f i) = rw (to_leaf e, leaf_shows s e x, insert_at_leaf, eq-eqb _ _ f) (does_refused KeyPresent s)
    go (no_first e f i) = rw (eq-eqb _ _ (root_empty s e), insert_under, eq-eqb _ _ (head_is s f), insert_root) (does_refused NoRoom s)
    go (no_two e f n i) = rw (to_leaf e, leaf_shows s e x, insert_at_leaf, ne_eqb _ _ n) (beside_refused _ _ x s f)
    go (as_first e f i) = rw (eq-eqb _ _ (root_empty s e), insert_under) (root_does x g s e f)
    go (beside e f n i) = rw (to_leaf e, leaf_shows s e x, insert_at_leaf, ne_eqb _ _ n) (rw (leaf_shows s e x) (beside_does x g s e f))

pub insert_entry : {p : List ℕ} {S : State} (x : ℕ) → Sound S → PoolShows p S
    → (insert_answer p x ≡ (insert x S).answer) × PoolShows (insert_words p x) (insert x S).after
unfolding insert_answer insert_words
insert_entry x g s = let d = insert_shows x g s in (d.answers, does_pool d)
