-- After a step, with what it wakes awake, every slot is that allows a step: in words that show a sound State (`step_covers`).
-- Why: tree's Near and Awake say which slots have to be; below the step they stand in the words around it, and above it a search for its router
-- finds them (KinShows.antt). What is awake may be said of words or of the tree (`cover_covers`, `covers_cover`). Assumes nothing.
use Rattle.std.proofs.Common.{◌≡◌, ℕ, ◌+◌, ◌^◌, ◌<◌, ◌≤◌, Bool, true, false, List, sym, refl, ap, ◌∙◌, mod-eq_of_lt, arith}
use mathlib.Core.Bool.{false≢true}
use Rattle.tree.specs.declared.Kind.{Kind}
use Rattle.tree.specs.declared.Kind.TheVariants.{Blacken, SingleLeft, SingleRight, DoubleLeft, DoubleRight, Lighten, LightenLeft, LightenRight}
use Rattle.tree.specs.Codes.{most_slots}
use Rattle.tree.specs.Tree.{Tree, leaf, node, slot_of, depth}
use Rattle.tree.specs.Kinds.{condition, effect, condition_at, stepped}
use Rattle.tree.specs.State.{State, full, Sound, key_end}
use Rattle.tree.specs.Settle.{allowed}
use Rattle.tree.specs.Sights.{parent_sees, grand_sees}
use Rattle.tree.proofs.Order.{All}
use Rattle.tree.proofs.Depth.{depth_half, depth_pos}
use Rattle.tree.proofs.Steps.{Located, at_count, located, locate, holds_at_present, holds_at_at}
use Rattle.tree.proofs.StepState.{allowed_exactly, tree_good, tree_once}
use Rattle.tree.proofs.Settling.{Proper}
use Rattle.tree.proofs.Ways.{Hangs, hangs_here, hangs_left, hangs_right, HangsIn, hangs_at, key_of, hang}
use Rattle.tree.proofs.Sight.{grand_then_parent}
use Rattle.tree.proofs.Near.{left_slot, right_slot, touched, wakened}
use Rattle.tree.proofs.Awake.{Covers, AllAwake, covers_kept, awake_woken}
use Rattle.format.specs.declared.Header.{Header}
use Rattle.format.specs.declared.Slot.{Slot}
use Rattle.format.specs.Words.{slot_at, last_slot}
use Rattle.format.specs.Shows.{Holds, holds_leaf, holds_node, Shows}
use Rattle.format.proofs.Frame.{root_slot, holds_root}
use Rattle.format.proofs.Shown.{shows_tree, last_slot_is, slots_in_lem}
use Rattle.format.proofs.Cover.{tree_light}
use Rattle.kinds.specs.declared.Around.{Around}
use Rattle.kinds.specs.Around.{around_at}
use Rattle.kinds.proofs.Seen.{around, around_is}
use Rattle.updates.proofs.SearchShows.{root_full, size_within}
use Rattle.settle.specs.declared.Pair.{Pair}
use Rattle.settle.specs.Waking.{two, woken_below, weight_after, kin_of, woken_above, wake_both, woken}
use Rattle.settle.proofs.AllowedShows.{allowed_shows}
use Rattle.settle.proofs.Rows.{Awake, Cover, allowed_slot}
use Rattle.settle.proofs.Wakes.{Long, both_long, both_grow, one_wakes, other_wakes}
use Rattle.settle.proofs.KinShows.{hangs_held, hangs_slot, kin_is}

-- a number that is 0 or a slot of some pool
abbrev Low : ℕ → Type 0
Low n = 1 ≤ n → n ≤ most_slots

-- the weight of the edge after a step, which does not reach the end of 32 bits
weight_same : (k : Kind) (w : ℕ) (u : Tree) → w + 1 < 2 ^ 32 → (effect k w u).0 ≡ weight_after k w
unfolding effect weight_after
weight_same Blacken w u h = refl
weight_same SingleLeft w u h = refl
weight_same SingleRight w u h = refl
weight_same DoubleLeft w u h = refl
weight_same DoubleRight w u h = refl
weight_same Lighten w u h = rw (mod-eq_of_lt h) (omega arith)
weight_same LightenLeft w u h = refl
weight_same LightenRight w u h = refl

pub woken_long : (h : Header) (p : List ℕ) (s : ℕ) (k : Kind) (a : Around) (m : List Bool) → Long m → Long (woken h p s k a m)
unfolding woken
woken_long h p s k a m l = both_long (wake_both m (woken_below k a)) _ (both_long m (woken_below k a) l)

-- no condition holds at a leaf
no_leaf : (k : Kind) (w s i : ℕ) → condition k w (leaf s i) ≡ false
unfolding condition
no_leaf Blacken w s i = refl
no_leaf SingleLeft w s i = refl
no_leaf SingleRight w s i = refl
no_leaf DoubleLeft w s i = refl
no_leaf DoubleRight w s i = refl
no_leaf Lighten w s i = refl
no_leaf LightenLeft w s i = refl
no_leaf LightenRight w s i = refl

-- the slots of a root's children, in its words
right_of : (w : ℕ) (t : Tree) → (root_slot w t).right ≡ right_slot t
unfolding right_slot
right_of w (leaf s k) = refl
right_of w (node s k wl l wr r) = refl

left_of : (w : ℕ) (t : Tree) → (root_slot w t).left ≡ left_slot t
unfolding left_slot
left_of w (leaf s k) = refl
left_of w (node s k wl l wr r) = refl

module _ (S : State) (t : Tree) (sound : Sound S) (e : S.top ≡ full t) {h : Header} (p : List ℕ) (shows : Shows h p S) where
  -- What is awake, of words and of the tree.
  pub cover_covers : (m : List Bool) → Cover h p m → Covers (Awake m) t
  cover_covers m c x j i a = c x j (allowed_shows S t sound e p shows j x ∙ a)

  pub covers_cover : (m : List Bool) → Covers (Awake m) t → Cover h p m
  covers_cover m c x k a = c x k (allowed_slot h p x k a).0 (sym (allowed_shows S t sound e p shows k x) ∙ a)

  -- slots that the words hold
  pub held_low : {w : ℕ} {u : Tree} → Holds p w u → slot_of u ≤ most_slots
  held_low g = omega (arith, (holds_root g).inside, shows.length_is, sound.few)

  right_low : {w : ℕ} {u : Tree} → Holds p w u → Low (right_slot u)
  unfolding right_slot
  right_low (holds_leaf g) i = omega arith
  right_low (holds_node g gl gr) i = held_low gr

  left_low : {w : ℕ} {u : Tree} → Holds p w u → Low (left_slot u)
  unfolding left_slot
  left_low (holds_leaf g) i = omega arith
  left_low (holds_node g gl gr) i = held_low gl

  kin_low : {s w : ℕ} {u : Tree} {g b c d q : ℕ} {v : Tree} → Hangs s w u g b c d q v → Holds p q v → Low c → Low d → Low g × Low b
  unfolding slot_of
  kin_low (hangs_here f) held a b = (a, b)
  kin_low (hangs_left i) (holds_node x xl xr) a b = kin_low i xl b (λ j. held_low (holds_node x xl xr))
  kin_low (hangs_right i) (holds_node x xl xr) a b = kin_low i xr b (λ j. held_low (holds_node x xl xr))

  proper : Proper t
  proper = record { chromatic = (tree_good S t sound e).chromatic; once = tree_once S t sound e }

  -- Below the step, at a node v: the slots that it wakes are awake, whatever else is woken after.
  module _ (m : List Bool) (long : Long m) (w v i wl wr : ℕ) (l r : Tree) (hl : Holds p wl l) (hr : Holds p wr r) where
    first : (c q : Pair) (n : ℕ) → c.one ≡ n → Low n → 1 ≤ n → Awake (wake_both (wake_both m c) q) n
    first c q n is low i = both_grow (wake_both m c) q n (one_wakes m c long is i (low i))

    second : (c q : Pair) (n : ℕ) → c.other ≡ n → Low n → 1 ≤ n → Awake (wake_both (wake_both m c) q) n
    second c q n is low i = both_grow (wake_both m c) q n (other_wakes m c long is i (low i))

    woken_below_lem : (k : Kind) (q : Pair) → AllAwake (Awake (wake_both (wake_both m (woken_below k (around p w i wl l wr r))) q)) (wakened k (node v i wl l wr r))
    unfolding woken_below wakened touched All
    woken_below_lem Blacken q = (first _ q _ refl (λ j. held_low hl), (second _ q _ refl (λ j. held_low hr), tt))
    woken_below_lem SingleLeft q = (first _ q _ refl (λ j. held_low hl), tt)
    woken_below_lem SingleRight q = (first _ q _ refl (λ j. held_low hr), tt)
    woken_below_lem DoubleLeft q = (first _ q _ refl (λ j. held_low hl), (second _ q _ (right_of wl l) (right_low hl), tt))
    woken_below_lem DoubleRight q = (first _ q _ refl (λ j. held_low hr), (second _ q _ (left_of wr r) (left_low hr), tt))
    woken_below_lem Lighten q = tt
    woken_below_lem LightenLeft q = (first _ q _ refl (λ j. held_low hr), tt)
    woken_below_lem LightenRight q = (first _ q _ refl (λ j. held_low hl), tt)

  -- Above it: the parent and the grandparent, if they see a difference.
  module _ (m : List Bool) (long : Long m) (x s : ℕ) {g b : ℕ} (kin : kin_of p h.root x s ≡ two b g) (low : Low g × Low b) (w w' : ℕ) where
    above_one : parent_sees w w' ≡ true → (woken_above p h.root x s w w').one ≡ b
    unfolding woken_above
    above_one f = rw (f, woken_above) (go (grand_sees w w'))
      where
        go : (c : Bool) → (elim c as (λ y. Pair) [ true ↦ kin_of p h.root x s | false ↦ two (kin_of p h.root x s).one 0 ]).one ≡ b
        go true = ap (λ (q : Pair). q.one) kin
        go false = ap (λ (q : Pair). q.one) kin

    above_other : grand_sees w w' ≡ true → (woken_above p h.root x s w w').other ≡ g
    unfolding woken_above
    above_other f = rw (grand_then_parent w w' f, f, woken_above) (ap (λ (q : Pair). q.other) kin)

    parent_wakes : parent_sees w w' ≡ true → 1 ≤ b → Awake (wake_both m (woken_above p h.root x s w w')) b
    parent_wakes f i = one_wakes m (woken_above p h.root x s w w') long (above_one f) i (low.1 i)

    grand_wakes : grand_sees w w' ≡ true → 1 ≤ g → Awake (wake_both m (woken_above p h.root x s w w')) g
    grand_wakes f i = other_wakes m (woken_above p h.root x s w w') long (above_other f) i (low.0 i)

  -- what a search for the router finds
  pub deep_enough : depth t ≤ last_slot p
  deep_enough = omega (arith, depth_half t, depth_pos t, size_within shows e sound, last_slot_is sound shows, slots_in_lem p S.slots shows.length_is)

  kin_shows : {s w g b : ℕ} {u : Tree} → HangsIn s w u g b t → kin_of p h.root (key_of u) s ≡ two b g
  unfolding kin_of
  kin_shows {s} hangs =
      let good = tree_good S t sound e in
      rw (root_full shows e) (kin_is p (last_slot p) 0 key_end (shows_tree shows e) good.ordered (tree_once S t sound e s) hangs deep_enough)

  -- The step's slot stands somewhere in the tree, and is an inner node.
  hung_covers : (k : Kind) (s : ℕ) → allowed s k t ≡ true → (m : List Bool) → Long m → Covers (Awake m) t → {w g b : ℕ} (u : Tree) → HangsIn s w u g b t → condition k w u ≡ true
      → Covers (Awake (woken h p s k (around_at p s) m)) (stepped k s t)
  unfolding woken slot_of key_of
  hung_covers k s ok m long cover (leaf v i) hangs c = absurd (false≢true (sym (no_leaf k _ v i) ∙ c))
  hung_covers k s ok m long cover {w} {g} {b} (node v i wl l wr r) hangs c = go (hangs_held hangs (shows_tree shows e))
    where
      u : Tree
      u = node v i wl l wr r

      around_s : Around
      around_s = around p w i wl l wr r

      seen : Holds p w u → around_at p s ≡ around_s
      seen held = ap (around_at p) (hangs_slot hangs) ∙ around_is held

      first_pair : Pair
      first_pair = woken_below k around_s

      then : Pair
      then = woken_above p h.root i s w (weight_after k w)

      light : w + 1 < 2 ^ 32
      light =
          let good = tree_good S t sound e in
          let few = tree_light (shows_tree shows e) good.chromatic (omega arith) good.low s (at_count (hangs_at hangs)) in
          let weight : (slot_at p s).weight ≡ w = ap (λ n. (slot_at p n).weight) (hangs_slot hangs) ∙ ap (λ (c : Slot). c.weight) (holds_root (hangs_held hangs (shows_tree shows e))).content in
          omega arith

      same : (effect k w u).0 ≡ weight_after k w
      same = weight_same k w u light

      low : Low g × Low b
      low = kin_low hangs (shows_tree shows e) (λ z. omega arith) (λ z. omega arith)

      go : Holds p w u → Covers (Awake (wake_both (wake_both m (woken_below k (around_at p s)))
          (woken_above p h.root (around_at p s).v.key s (around_at p s).v.weight (weight_after k (around_at p s).v.weight)))) (stepped k s t)
      go (holds_node hv hl hr) =
          let m₁ = wake_both m first_pair in
          let long₁ = both_long m first_pair long in
          rw (seen (holds_node hv hl hr)) (covers_kept k proper hangs ok (Awake m) (Awake (wake_both m₁ then)) (λ x y. both_grow m₁ then x (both_grow m first_pair x y))
          (awake_woken (Awake (wake_both m₁ then)) k w u g b (woken_below_lem m long w v i wl wr l r hl hr k then)
          (λ f. parent_wakes m₁ long₁ i s (kin_shows hangs) low w (weight_after k w) (ap (parent_sees w) (sym same) ∙ f))
          (λ f. grand_wakes m₁ long₁ i s (kin_shows hangs) low w (weight_after k w) (ap (grand_sees w) (sym same) ∙ f))) cover)

  pub step_covers : (k : Kind) (s : ℕ) → allowed s k t ≡ true → (m : List Bool) → Long m → Covers (Awake m) t → Covers (Awake (woken h p s k (around_at p s) m)) (stepped k s t)
  unfolding condition_at
  step_covers k s ok m long cover = go (locate s 1 t (holds_at_present (condition k) s 1 t c))
    where
      c : condition_at k s t ≡ true
      c = ((allowed_exactly s k t).0 ok).0

      go : Located s 1 t → Covers (Awake (woken h p s k (around_at p s) m)) (stepped k s t)
      go (located {u = u} at) = hung_covers k s ok m long cover u (hang 0 0 at).hangs (sym (holds_at_at (condition k) at (tree_once S t sound e s)) ∙ c)
