-- Delete under a header, on words that show a sound State, answers as document 01's delete does and leaves a header and words that
-- show its State (`delete_shows`); the entry of a pool leaves a pool that shows it (`delete_entry`).
-- Why: the leaf, its parent and its sibling have three different slots, and no other slot of the tree or of the chain is written. The
-- tree is the old one with one subtree replaced, the parent's by the sibling moved to the parent's slot (`Cutting`). The sum of the
-- two weights does not wrap, for none is above 255; and a tree of k keys has 2k - 1 nodes. Where the parent is the root the edge above
-- it stays 1, so L falls by the sibling's weight, and else it stays (`cutting_level`). Assumes nothing.
use Rattle.std.proofs.Common.{◌≡◌, ℕ, pred, ◌+◌, ◌/◌, ◌<◌, ◌≤◌, eqb, ◌≢◌, List, [], ◌∷◌, sym, refl, ap, ◌∙◌, arith, eq-eqb, ne_eqb, le-leb}
use borrow.Author.Tests.{lt-leb}
use Rattle.tree.specs.declared.Answer.TheVariants.{Done}
use Rattle.tree.specs.declared.Refusal.TheVariants.{KeyAbsent}
use Rattle.tree.specs.Codes.{most_level}
use Rattle.tree.specs.Tree.{Tree, leaf, node, slot_of, is_leaf, size, leaves, one, count, count_in, level, Chromatic}
use Rattle.tree.specs.Updates.{reach, reached_slot, reached_key, moved_to, Cut, cut, delete_at}
use Rattle.tree.specs.State.{State, state, Top, empty, full, nodes, level_top, Good, GoodTop, Sound, gives, deleted, delete}
use Rattle.tree.proofs.Tests.{same_or_not}
use Rattle.tree.proofs.Order.{nodes_of}
use Rattle.tree.proofs.Delete.{Del, cut_left, cut_right, in_left as del-left, in_right as del-right, delete_at_is, delete_size, delete_leaves, delete_root_lem, delete_levels}
use Rattle.format.specs.declared.Header.{Header}
use Rattle.format.specs.declared.Slot.{Slot}
use Rattle.format.specs.Words.{header, slot_at, put_slot, free_slot, head_of, root_of, shown_header, weighing}
use Rattle.format.specs.Shows.{At, Holds, holds_leaf, holds_node, HoldsTop, chain_more, Shows, PoolShows}
use Rattle.format.specs.Performing.{written}
use Rattle.format.proofs.Slots.{header_eq, slot_length}
use Rattle.tree.proofs.Counts.{one_same, root_count}
use Rattle.format.proofs.Frame.{chain_other, root_slot, weight_of_root, holds_root, at_written}
use Rattle.format.proofs.Writes.{Puts, slots_put, Wrote, nothing_yet, and_at, last, before, wrote_length, wrote_other, got, kept, chain_kept}
use Rattle.format.proofs.Replace.{In, top, in_left, in_right, in_holds, in_count, replace}
use Rattle.format.proofs.Shown.{placed_once, shows_tree}
use Rattle.format.proofs.Cover.{tree_light}
use Rattle.format.proofs.Performing.{Does, does_refused, does_done, does_pool}
use Rattle.updates.specs.Updating.{way, by_root, freed, freed_words, sibling_of, joined, delete_root, delete_below, delete_leaf, delete_at_leaf, delete_under, delete_words, delete_answer}
use Rattle.updates.proofs.Ways.{parent_of}
use Rattle.updates.proofs.ByRoot.{by_root_lem, by_below}
use Rattle.updates.proofs.RootLevels.{level_deleted, level_read, weight_added, joined_weight}
use Rattle.updates.proofs.SearchShows.{root_empty, root_some, way_shows, leaf_shows}

-- `Fork v s w b t`: the root v of t has two children, the leaf s, on either side, and b, to which an edge of weight w leads.
data Fork (v s w : ℕ) (b : Tree) : Tree → Type 0 where
  leaf_left : {k x wl : ℕ} → Fork v s w b (node v k wl (leaf s x) w b)
  leaf_right : {k x wr : ℕ} → Fork v s w b (node v k w b wr (leaf s x))

-- In the words p, the fork hanging from an edge of weight q: its parent's slot, the leaf's, and the sibling.
record Forked (p : List ℕ) (v s w : ℕ) (b : Tree) (q : ℕ) : Type 0 where
  parent_slot : At p v (slot_at p v)
  leaf_slot_case : At p s (slot_at p s)
  weight_is : (slot_at p v).weight ≡ q
  sibling_is : sibling_of (slot_at p v) s ≡ slot_of b
  sibling_held : Holds p w b

own : {p : List ℕ} {y : ℕ} {c : Slot} → At p y c → At p y (slot_at p y)
own h = record { from_one = h.from_one; inside = h.inside; content = refl }

module _ {v s w : ℕ} {b : Tree} where
  fork_count : (y : ℕ) {t : Tree} → Fork v s w b t → count y t ≡ one (eqb y v) + one (eqb y s) + count y b
  unfolding count
  fork_count y leaf_left = omega arith
  fork_count y leaf_right = omega arith

  fork_root : {t : Tree} → Fork v s w b t → slot_of t ≡ v
  unfolding slot_of
  fork_root leaf_left = refl
  fork_root leaf_right = refl

  forked : {p : List ℕ} {q : ℕ} {t : Tree} → Fork v s w b t → slot_of b ≢ s → Holds p q t → Forked p v s w b q
  unfolding sibling_of slot_of
  forked leaf_left n (holds_node h (holds_leaf i) j) = record {
    parent_slot = own h;
    leaf_slot_case = own i;
    weight_is = ap (λ (c : Slot). c.weight) h.content;
    sibling_is = rw h.content (rw (eq-eqb s s refl, sibling_of));
    sibling_held = j;
  }
  forked leaf_right n (holds_node h j (holds_leaf i)) = record {
    parent_slot = own h;
    leaf_slot_case = own i;
    weight_is = ap (λ (c : Slot). c.weight) h.content;
    sibling_is = rw h.content (rw (ne_eqb (slot_of b) s n, sibling_of));
    sibling_held = j;
  }

-- `Cutting`: where a delete that leaves u cuts t, and u as t with the parent's subtree replaced. s is the leaf's slot, b the sibling's;
-- `join v w` is the weight that the parent's slot v gets for the sum w, and q what u hangs from.
record Cutting (x par w : ℕ) (t : Tree) (s b : ℕ) (u : Tree) (join : ℕ → ℕ → ℕ) (q : ℕ) : Type 0 where
  parent : ℕ
  weight : ℕ
  sibling_weight : ℕ
  sibling : Tree
  hole : Tree
  fork : Fork parent s sibling_weight sibling hole
  sibling_is : slot_of sibling ≡ b
  parent_is : parent_of x par t ≡ parent
  leaf_is : reached_slot x t ≡ s
  put : In weight hole (join parent (weight + sibling_weight)) (moved_to parent sibling) w t q u

-- the same cut, seen from higher up
lifted : {x par par' w w' s b q q' : ℕ} {t t' u u' : Tree} {join join' : ℕ → ℕ → ℕ} (d : Cutting x par w t s b u join q)
    → (parent_of x par' t' ≡ parent_of x par t) × (reached_slot x t' ≡ reached_slot x t)
    → In d.weight d.hole (join' d.parent (d.weight + d.sibling_weight)) (moved_to d.parent d.sibling) w' t' q' u'
    → Cutting x par' w' t' s b u' join' q'
lifted d e i = record {
  parent = d.parent;
  weight = d.weight;
  sibling_weight = d.sibling_weight;
  sibling = d.sibling;
  hole = d.hole;
  fork = d.fork;
  sibling_is = d.sibling_is;
  parent_is = e.0 ∙ d.parent_is;
  leaf_is = e.1 ∙ d.leaf_is;
  put = i;
}

parent_stands : {x par w s b q : ℕ} {t u : Tree} {join : ℕ → ℕ → ℕ} (d : Cutting x par w t s b u join q) → 1 ≤ count d.parent t
parent_stands d = let v = d.parent in omega (arith, in_count v d.put, fork_count v d.fork, one_same v v refl)

-- where v stands above t, and no slot twice, the cut is not at v
cut_below : {x par w s b q : ℕ} {t u : Tree} {join : ℕ → ℕ → ℕ} (v : ℕ) (d : Cutting x par w t s b u join q)
    → one (eqb d.parent v) + count d.parent t ≤ 1 → v ≢ d.parent
cut_below v d o e = omega (arith, one_same d.parent v (sym e), parent_stands d)

module _ (x par v k wl wr : ℕ) (l r : Tree) where
  goes_left : x ≤ k → (parent_of x par (node v k wl l wr r) ≡ parent_of x v l) × (reached_slot x (node v k wl l wr r) ≡ reached_slot x l)
  unfolding parent_of reached_slot reach
  goes_left h = (rw (le-leb x k h, parent_of), rw (le-leb x k h, reached_slot, reach))

  goes_right : k < x → (parent_of x par (node v k wl l wr r) ≡ parent_of x v r) × (reached_slot x (node v k wl l wr r) ≡ reached_slot x r)
  unfolding parent_of reached_slot reach
  goes_right h = (rw (lt-leb x k h, parent_of), rw (lt-leb x k h, reached_slot, reach))

-- a cut at the tree's root
here : {x par w v s ws q : ℕ} {b t : Tree} (join : ℕ → ℕ → ℕ) → Fork v s ws b t → (parent_of x par t ≡ v) × (reached_slot x t ≡ s) → join v (w + ws) ≡ q
    → Cutting x par w t s (slot_of b) (moved_to v b) join q
here {w} {v} {ws} {b} {t} join f e i = record {
  parent = v;
  weight = w;
  sibling_weight = ws;
  sibling = b;
  hole = t;
  fork = f;
  sibling_is = refl;
  parent_is = e.0;
  leaf_is = e.1;
  put = rw i top;
}

module _ {x : ℕ} where
  cutting : (par : ℕ) {w : ℕ} {t : Tree} {c : Cut} → Del x w t c → Cutting x par w t c.leaf_slot c.sibling_slot c.tree (λ v q. q) c.weight
  unfolding cut slot_of parent_of reached_slot reach
  cutting par (cut_left {v} {k} {wl} {wr} {s} {r} h) = here (λ v q. q) leaf_left (goes_left x par v k wl wr (leaf s x) r h) refl
  cutting par (cut_right {v} {k} {wl} {wr} {s} {l} h) = here (λ v q. q) leaf_right (goes_right x par v k wl wr l (leaf s x) h) refl
  cutting par (del-left {v} {k} {wl} {wr} {l} {r} h d) = let e = cutting v d in lifted e (goes_left x par v k wl wr l r h) (in_left e.put)
  cutting par (del-right {v} {k} {wl} {wr} {l} {r} h d) = let e = cutting v d in lifted e (goes_right x par v k wl wr l r h) (in_right e.put)

  -- "(1 if it is the root)"
  cutting_root : {t : Tree} {c : Cut} → Del x 1 t c → ((s : ℕ) → count s t ≤ 1)
      → Cutting x 0 1 t c.leaf_slot c.sibling_slot c.tree (λ v. by_root (slot_of t) v 1) 1
  unfolding cut slot_of count parent_of reached_slot reach
  cutting_root (cut_left {v} {k} {wl} {wr} {s} {r} h) o =
      here (λ y. by_root v y 1) leaf_left (goes_left x 0 v k wl wr (leaf s x) r h) (by_root_lem v 1 (1 + wr))
  cutting_root (cut_right {v} {k} {wl} {wr} {s} {l} h) o =
      here (λ y. by_root v y 1) leaf_right (goes_right x 0 v k wl wr l (leaf s x) h) (by_root_lem v 1 (1 + wl))
  cutting_root (del-left {v} {k} {wl} {wr} {l} {r} h d) o =
      let e = cutting v d in
      let n = cut_below v e (omega (arith, o e.parent)) in
      lifted e (goes_left x 0 v k wl wr l r h) (rw (by_below v e.parent _ _ n) (in_left e.put))
  cutting_root (del-right {v} {k} {wl} {wr} {l} {r} h d) o =
      let e = cutting v d in
      let n = cut_below v e (omega (arith, o e.parent)) in
      lifted e (goes_right x 0 v k wl wr l r h) (rw (by_below v e.parent _ _ n) (in_right e.put))

  -- A cut at the root lowers L by the sibling's weight, and no other changes it.
  cutting_level : {t : Tree} {c : Cut} (d : Del x 1 t c) (o : (s : ℕ) → count s t ≤ 1) → Chromatic 1 t
      → level_deleted (slot_of t) (cutting_root d o).parent (level t) (cutting_root d o).sibling_weight ≡ level c.tree
  unfolding cutting_root here lifted cut slot_of count
  cutting_level (cut_left {v} h) o e = by_root_lem v _ _ ∙ omega (arith, (delete_levels (cut_left h) e).same)
  cutting_level (cut_right {v} h) o e = by_root_lem v _ _ ∙ omega (arith, (delete_levels (cut_right h) e).same)
  cutting_level (del-left {v} h d) o e =
      let f = cutting v d in
      by_below v _ _ _ (cut_below v f (omega (arith, o f.parent))) ∙ omega (arith, (delete_levels (del-left h d) e).same)
  cutting_level (del-right {v} h d) o e =
      let f = cutting v d in
      by_below v _ _ _ (cut_below v f (omega (arith, o f.parent))) ∙ omega (arith, (delete_levels (del-right h d) e).same)

-- The sibling, copied into slot v with another weight, is held there.
moved_root : (v : ℕ) (t : Tree) → slot_of (moved_to v t) ≡ v
unfolding moved_to slot_of
moved_root v (leaf s k) = refl
moved_root v (node s k wl l wr r) = refl

moved_holds : {p p' : List ℕ} {xs : Puts} {w : ℕ} {t : Tree} (v q : ℕ) → Wrote p xs p' → Holds p w t → At p' v (weighing (root_slot w t) q)
    → ((y : ℕ) → count_in y (slots_put xs) + count y t ≤ 1 + one (eqb y (slot_of t))) → Holds p' q (moved_to v t)
unfolding moved_to slot_of count
moved_holds v q z (holds_leaf h) a n = holds_leaf a
moved_holds v q z (holds_node h hl hr) a n = holds_node a (kept z hl (λ y. omega (arith, n y))) (kept z hr (λ y. omega (arith, n y)))

-- Below the root: what the three writes leave. a is the leaf's slot and b the sibling's.
module _ {h : Header} {p : List ℕ} {S : State} {x a b : ℕ} {t u : Tree} (g : Sound S) (s : Shows h p S) (tree_is : S.top ≡ full t)
    (k : Cutting x 0 1 t a b u (λ v. by_root (slot_of t) v 1) 1) where
  once : (y : ℕ) → count y t + count_in y S.free ≤ 1
  once = placed_once g tree_is

  held : Holds p 1 t
  held = shows_tree s tree_is

  within : (y : ℕ) → one (eqb y k.parent) + one (eqb y a) + count y k.sibling ≤ count y t
  within y = omega (arith, in_count y k.put, fork_count y k.fork)

  sibling_root : (y : ℕ) → one (eqb y b) ≤ count y k.sibling
  sibling_root y = rw (sym k.sibling_is) (root_count y k.sibling)

  ba : b ≢ a
  ba e = omega (arith, once b, within b, sibling_root b, one_same b b refl, one_same b a e)

  fork_held : Forked p k.parent a k.sibling_weight k.sibling k.weight
  fork_held = forked k.fork (rw k.sibling_is ba) (in_holds k.put held)

  sibling_at : At p b (root_slot k.sibling_weight k.sibling)
  sibling_at = rw k.sibling_is at (holds_root fork_held.sibling_held)

  -- the sibling, as it is written into the parent's slot
  moved : Slot
  moved = weighing (root_slot k.sibling_weight k.sibling) (by_root (slot_of t) k.parent 1 (k.weight + k.sibling_weight))

  cut_does : (n : ℕ) → slot_of u ≡ slot_of t → size t ≡ size u + 2
      → Does (written (put_slot (put_slot (put_slot p k.parent moved) a (free_slot (head_of S.free))) b (free_slot a)) (Done n) (header (slot_of t) b (pred (pred (size t))) (level u)))
      (gives (Done n) (state S.slots (full u) (b ∷ (a ∷ S.free))))
  unfolding moved count_in shown_header root_of nodes level_top HoldsTop
  cut_does n root less =
      let v = k.parent in
      let f = fork_held in
      let w : Wrote p ((b, free_slot a) ∷ (a, free_slot (head_of S.free)) ∷ (v, moved) ∷ []) _ = and_at (and_at (and_at nothing_yet)) in
      let apart : (y : ℕ) → count_in y (b ∷ a ∷ v ∷ []) + count_in y S.free ≤ 1 = λ y. omega (arith, once y, within y, sibling_root y) in
      does_done _ n _ _ (wrote_length w ∙ s.length_is)
      (header_eq (sym root) refl (omega arith) refl)
      (replace k.put (moved_root v k.sibling ∙ sym (fork_root k.fork)) (λ y. omega (arith, once y)) (wrote_length w)
      (λ y i j. wrote_other w y (omega (arith, fork_count y k.fork, sibling_root y)))
      held
      (moved_holds v _ w f.sibling_held (got w f.parent_slot (before (before last)) (omega (arith, apart v)))
      (rw k.sibling_is (λ y. omega (arith, once y, within y)))))
      (chain_more (got w sibling_at last (omega (arith, apart b)))
      (chain_more (got w f.leaf_slot_case (before last) (omega (arith, apart a))) (chain_kept w s.chain_held apart)))

  -- what is written is that: the sum of two weights, none of them above 255, does not wrap
  good : Good t
  unfolding GoodTop
  good = rw tree_is at g.good

  light : (y : ℕ) → 1 ≤ count y t → (slot_at p y).weight ≤ most_level
  light y i = tree_light held good.chromatic (omega arith) good.low y i

  sibling_weight_lem : (slot_at p b).weight ≡ k.sibling_weight
  sibling_weight_lem = rw sibling_at.content (weight_of_root k.sibling_weight k.sibling)

  joined_is : joined (slot_of t) k.parent (slot_at p k.parent) (slot_at p b) ≡ moved
  unfolding moved
  joined_is =
      let v = k.parent in
      let plus : weight_added (slot_at p v) (slot_at p b) ≡ k.weight + k.sibling_weight =
      omega (arith, fork_held.weight_is, sibling_weight_lem, light v (parent_stands k), light b (omega (arith, within b, sibling_root b, one_same b b refl))) in
      joined_weight (slot_of t) v (slot_at p v) (slot_at p b) ∙ rw plus (rw sibling_at.content)

  below_does : (n : ℕ) → slot_of u ≡ slot_of t → size t ≡ size u + 2 → size t / 2 ≡ n
      → level_deleted (slot_of t) k.parent (level t) k.sibling_weight ≡ level u
      → Does (delete_below p h k.parent a) (gives (Done n) (state S.slots (full u) (b ∷ (a ∷ S.free))))
  unfolding delete_below freed freed_words shown_header root_of nodes level_top
  below_does n root less half falls =
      let sibling-slot : sibling_of (slot_at p k.parent) a ≡ b = fork_held.sibling_is ∙ k.sibling_is in
      let was : h ≡ header (slot_of t) (head_of S.free) (size t) (level t) = rw tree_is at s.header_is in
      rw was (rw (sibling-slot, joined_is, half, level_read (slot_of t) k.parent (level t) sibling_weight_lem, falls) (cut_does n root less))

-- A root leaf is freed.
root_does : {h : Header} {p : List ℕ} {S : State} (y k : ℕ) → Sound S → Shows h p S → S.top ≡ full (leaf y k)
    → Does (delete_root p h y) (gives (Done 0) (state S.slots empty (y ∷ S.free)))
unfolding delete_root freed freed_words count shown_header root_of nodes level_top slot_of size level HoldsTop
root_does {h} {p} {S} y k g s e =
    let new = free_slot (head_of S.free) in
    let was : h ≡ header y (head_of S.free) 1 0 = rw e at s.header_is in
    rw was (does_done (put_slot p y new) 0 _ _ (slot_length p y new ∙ s.length_is) refl tt
    (chain_more (at_written (holds_root (shows_tree s e)) new) (chain_other s.chain_held y new (omega (arith, placed_once g e y, one_same y y refl)))))

deleted_does : {h : Header} {p : List ℕ} {S : State} (x : ℕ) (t : Tree) → reached_key x t ≡ x → Sound S → Shows h p S → S.top ≡ full t
    → Does (delete_leaf p h (way (parent_of x 0 t) (reached_slot x t))) (deleted x S t)
unfolding delete_leaf deleted parent_of reached_slot reach is_leaf
deleted_does x (leaf y k) i g s e = root_does y k g s e
deleted_does x (node v k wl l wr r) i g s e =
    let t = node v k wl l wr r in
    let c = delete_at x 1 t in
    let d = delete_at_is x 1 t refl i in
    let once : (y : ℕ) → count y t ≤ 1 = λ y. omega (arith, placed_once g e y) in
    let f = cutting_root d once in
    let n : f.parent ≢ 0 = λ z. omega (arith, (fork_held g s e f).parent_slot.from_one) in
    let half : size t / 2 ≡ leaves c.tree = omega (arith, nodes_of t, delete_leaves d) in
    rw (f.parent_is, f.leaf_is) (rw (ne_eqb _ 0 n, delete_leaf) (below_does g s e f (leaves c.tree) (delete_root_lem d) (delete_size d) half (cutting_level d once (good g s e f).chromatic)))

pub delete_shows : {h : Header} {p : List ℕ} {S : State} (x : ℕ) → Sound S → Shows h p S → Does (delete_under p h x) (delete x S)
unfolding delete_under delete_at_leaf delete
delete_shows {h} {p} {S} x g s = go S.top refl
  where
    go : (t : Top) → S.top ≡ t → Does (delete_under p h x) (delete x S)
    go empty e = rw (eq-eqb _ _ (root_empty s e), delete_under, e, delete) (does_refused KeyAbsent s)
    go (full t) e = rw (ne_eqb _ _ (root_some s e), delete_under, way_shows s e x g, leaf_shows s e x, delete_at_leaf, e, delete) (same_or_not (reached_key x t) x
        (λ i. rw (eq-eqb _ _ i, way_shows s e x g) (deleted_does x t i g s e))
        (λ n. rw (ne_eqb _ _ n) (does_refused KeyAbsent s)))

pub delete_entry : {p : List ℕ} {S : State} (x : ℕ) → Sound S → PoolShows p S
    → (delete_answer p x ≡ (delete x S).answer) × PoolShows (delete_words p x) (delete x S).after
unfolding delete_answer delete_words
delete_entry x g s = let d = delete_shows x g s in (d.answers, does_pool d)
