-- Where slot s hangs in a tree that the words hold, a search for its router meets s, and the last two slots before it are its parent's and its
-- grandparent's (`kin_is`); and it passes fewer slots than the tree is deep (`kin_short`).
-- Why: `Hangs` of tree's Ways, by its cases; the bounds of `Ordered` put the router of s on the side where s stands. Assumes nothing.
use Rattle.std.proofs.Common.{◌≡◌, ℕ, zero, suc, ◌-◌, ◌<◌, ◌≤◌, Bool, true, false, eqb, List, sym, ap, ◌∙◌, arith, eq-eqb, le-leb}
use borrow.Author.Tests.{lt-leb}
use Rattle.tree.specs.Tree.{Tree, node, slot_of, count, depth, Ordered}
use Rattle.tree.proofs.Counts.{one_same}
use Rattle.tree.proofs.Depth.{depth_pos}
use Rattle.tree.proofs.Steps.{at_count}
use Rattle.tree.proofs.Ways.{Hangs, hangs_here, hangs_left, hangs_right, hangs_at, key_of, key_between}
use Rattle.format.specs.Words.{slot_at}
use Rattle.format.specs.Shows.{Holds, holds_node}
use Rattle.updates.specs.Updating.{toward}
use Rattle.settle.specs.Waking.{two, kin_from, kin_turns}
use Rattle.settle.proofs.Scans.{kin_met, kin_on}

-- the subtree that hangs there is held too
pub hangs_held : {p : List ℕ} {s w : ℕ} {u : Tree} {g b c d q : ℕ} {t : Tree} → Hangs s w u g b c d q t → Holds p q t → Holds p w u
hangs_held (hangs_here e) h = h
hangs_held (hangs_left i) (holds_node h hl hr) = hangs_held i hl
hangs_held (hangs_right i) (holds_node h hl hr) = hangs_held i hr

pub hangs_slot : {s w : ℕ} {u : Tree} {g b c d q : ℕ} {t : Tree} → Hangs s w u g b c d q t → s ≡ slot_of u
hangs_slot (hangs_here e) = e
hangs_slot (hangs_left i) = hangs_slot i
hangs_slot (hangs_right i) = hangs_slot i

module _ (p : List ℕ) where
  -- at a node v that is not s, the way goes on to the child on whose side s stands
  pub goes_left : {s q k wl wr i : ℕ} {l r : Tree} → Holds p q (node s i wl l wr r) → k ≤ i → toward k (slot_at p s) ≡ slot_of l
  unfolding toward
  goes_left {k = k} {i = i} (holds_node h hl hr) a = ap (toward k) h.content ∙ rw (le-leb k i a, toward)

  pub goes_right : {s q k wl wr i : ℕ} {l r : Tree} → Holds p q (node s i wl l wr r) → i < k → toward k (slot_at p s) ≡ slot_of r
  unfolding toward
  goes_right {k = k} {i = i} (holds_node h hl hr) a = ap (toward k) h.content ∙ rw (lt-leb k i a, toward)

  pub kin_is : {s w : ℕ} {u : Tree} {g b : ℕ} (n lo hi : ℕ) {c d q : ℕ} {t : Tree} → Holds p q t → Ordered lo hi t → count s t ≤ 1 → Hangs s w u g b c d q t → depth t ≤ n
      → kin_from n p (key_of u) s c d (slot_of t) ≡ two b g
  unfolding Ordered count slot_of depth
  kin_is {s} {u = u} {g} {b} n lo hi h o i (hangs_here e) l = kin_met n p (key_of u) s g b (slot_of u) (sym e)
  kin_is {s} {u = u} n lo hi (holds_node h hl hr) o i (hangs_left {a = a} {b = b} {v = v} {i = k} j) l =
      let other = at_count (hangs_at j) in
      let between = key_between lo (suc k) o.0 (hangs_at j) in
      kin_on n (n - 1) p (key_of u) s a b v (omega arith) (λ e. omega (arith, one_same s v (sym e)))
      ∙ (ap (kin_from (n - 1) p (key_of u) s b v) (goes_left (holds_node h hl hr) (omega arith)) ∙ kin_is (n - 1) lo (suc k) hl o.0 (omega arith) j (omega arith))
  kin_is {s} {u = u} n lo hi (holds_node h hl hr) o i (hangs_right {a = a} {b = b} {v = v} {i = k} j) l =
      let other = at_count (hangs_at j) in
      let between = key_between (suc k) hi o.1 (hangs_at j) in
      kin_on n (n - 1) p (key_of u) s a b v (omega arith) (λ e. omega (arith, one_same s v (sym e)))
      ∙ (ap (kin_from (n - 1) p (key_of u) s b v) (goes_right (holds_node h hl hr) (omega arith)) ∙ kin_is (n - 1) (suc k) hi hr o.1 (omega arith) j (omega arith))

  -- one slot and then the rest, or none
  turns_on : (n x s v : ℕ) → kin_turns (suc n) p x s v ≤ suc (kin_turns n p x s (toward x (slot_at p v)))
  unfolding kin_turns
  turns_on n x s v = go (eqb v s)
    where
      go : (b : Bool) → elim b [ true ↦ 0 | false ↦ suc (kin_turns n p x s (toward x (slot_at p v))) ] ≤ suc (kin_turns n p x s (toward x (slot_at p v)))
      go true = omega arith
      go false = omega arith

  pub kin_short : (n lo hi : ℕ) {s w g b c d q : ℕ} {u t : Tree} → Holds p q t → Ordered lo hi t → Hangs s w u g b c d q t
      → kin_turns n p (key_of u) s (slot_of t) < depth t
  unfolding Ordered slot_of depth kin_turns
  kin_short zero lo hi {t = t} h o i = omega (arith, depth_pos t)
  kin_short (suc n) lo hi {s} {u = u} h o (hangs_here e) = rw (eq-eqb (slot_of u) s (sym e), kin_turns) (omega (arith, depth_pos u))
  kin_short (suc n) lo hi {s} {u = u} (holds_node h hl hr) o (hangs_left {v = v} {i = k} j) =
      let between = key_between lo (suc k) o.0 (hangs_at j) in
      let next = ap (kin_turns n p (key_of u) s) (goes_left {k = key_of u} (holds_node h hl hr) (omega arith)) in
      omega (arith, turns_on n (key_of u) s v, next, kin_short n lo (suc k) hl o.0 j)
  kin_short (suc n) lo hi {s} {u = u} (holds_node h hl hr) o (hangs_right {v = v} {i = k} j) =
      let between = key_between (suc k) hi o.1 (hangs_at j) in
      let next = ap (kin_turns n p (key_of u) s) (goes_right {k = key_of u} (holds_node h hl hr) (omega arith)) in
      omega (arith, turns_on n (key_of u) s v, next, kin_short n (suc k) hi hr o.1 j)
