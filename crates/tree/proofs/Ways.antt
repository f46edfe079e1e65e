-- Where a slot hangs, and the way to it. In an ordered tree in which slot s stands once, the search for the key or router at s passes
-- s (`way_passes`): so its parent and its grandparent are found by going down with that key until s is met (`way_exact`). This is
-- how a program finds them in a pool, where no slot says what it hangs from. The descent is no longer than the tree is deep (`way_short`).
-- Why: at each router on the way, the bounds of `Ordered` put the key of a slot below on the side where the slot stands. Assumes
-- nothing.
use mathlib.Core.Path.{◌≡◌, refl}
use mathlib.Core.Bool.{true, false}
use lib.Dec.{eqb, leb}
use borrow.Author.Tests.{eq-eqb, ne_eqb, le-leb, lt-leb}
use native.Mathlib.Omega.{arith}
use Prim.Native.Nat.{ℕ, suc, ◌≤◌, ◌<◌}
use Rattle.tree.specs.Tree.{Tree, leaf, node, slot_of, depth, count, Ordered}
use Rattle.tree.specs.Updates.{reach}
use Rattle.tree.proofs.Tests.{either_way, same_or_not}
use Rattle.tree.proofs.Counts.{is_other}
use Rattle.tree.proofs.Order.{ordered_bounds}
use Rattle.tree.proofs.Search.{reach_left, reach_right}
use Rattle.tree.proofs.Steps.{At, at_root, at_left, at_right, at_count}

-- the key or router of a tree's root
unfoldable pub key_of : Tree → ℕ
key_of (leaf s k) = k
key_of (node s k wl l wr r) = k

-- `Hangs s w u g p a b q t`: t hangs from an edge of weight q, below slot b, which is below slot a; and in t the subtree u, with slot s
-- at its root, hangs from an edge of weight w, below slot p, its parent, which is below slot g, its grandparent. (0 is no slot.)
pub data Hangs (s w : ℕ) (u : Tree) (g p : ℕ) : ℕ → ℕ → ℕ → Tree → Type 0 where
  hangs_here : s ≡ slot_of u → Hangs s w u g p g p w u
  hangs_left : {a b q v i wl wr : ℕ} {l r : Tree} → Hangs s w u g p b v wl l → Hangs s w u g p a b q (node v i wl l wr r)
  hangs_right : {a b q v i wl wr : ℕ} {l r : Tree} → Hangs s w u g p b v wr r → Hangs s w u g p a b q (node v i wl l wr r)

-- in the whole tree, whose root has no parent
abbrev pub HangsIn : (s w : ℕ) → Tree → (g p : ℕ) → Tree → Type 0
HangsIn s w u g p t = Hangs s w u g p 0 0 1 t

pub hangs_at : {s w g p : ℕ} {u : Tree} {a b q : ℕ} {t : Tree} → Hangs s w u g p a b q t → At s w u q t
hangs_at (hangs_here e) = at_root e
hangs_at (hangs_left h) = at_left (hangs_at h)
hangs_at (hangs_right h) = at_right (hangs_at h)

-- The slots of the grandparent and the parent of slot s, by the key x: down as a search for x goes, until s is met.
unfoldable pub way_from : (x s g p : ℕ) → Tree → ℕ × ℕ
way_from x s g p (leaf v k) = (g, p)
way_from x s g p (node v k wl l wr r) = elim (eqb s v) [ true ↦ (g, p) | false ↦ elim (leb x k) [ true ↦ way_from x s p v l | false ↦ way_from x s p v r ] ]

abbrev pub way : (x s : ℕ) → Tree → ℕ × ℕ
way x s t = way_from x s 0 0 t

-- how many nodes the descent passes before it stops: fewer than there are on the longest way down
unfoldable pub way_turns : (x s : ℕ) → Tree → ℕ
way_turns x s (leaf v k) = 0
way_turns x s (node v k wl l wr r) = elim (eqb s v) [ true ↦ 0 | false ↦ elim (leb x k) [ true ↦ suc (way_turns x s l) | false ↦ suc (way_turns x s r) ] ]

pub way_short : (x s : ℕ) (t : Tree) → way_turns x s t < depth t
unfolding way_turns depth
way_short x s (leaf v k) = omega arith
way_short x s (node v k wl l wr r) = same_or_not s v
    (λ e. rw (eq-eqb s v e, way_turns) (omega arith))
    (λ n. either_way x k
    (λ h. rw (ne_eqb s v n, le-leb x k h, way_turns) (omega (arith, way_short x s l)))
    (λ h. rw (ne_eqb s v n, lt-leb x k h, way_turns) (omega (arith, way_short x s r))))

-- Every key and router of t stands between its bounds.
root_between : (lo hi : ℕ) (t : Tree) → Ordered lo hi t → (lo ≤ key_of t) × (key_of t < hi)
unfolding Ordered key_of
root_between lo hi (leaf s k) o = o
root_between lo hi (node s k wl l wr r) o = omega (arith, ordered_bounds lo (suc k) l o.0, ordered_bounds (suc k) hi r o.1)

pub key_between : {s w : ℕ} {u : Tree} (lo hi : ℕ) {q : ℕ} {t : Tree} → Ordered lo hi t → At s w u q t → (lo ≤ key_of u) × (key_of u < hi)
unfolding Ordered
key_between {u} lo hi o (at_root e) = root_between lo hi u o
key_between lo hi o (at_left {i} {r} a) = omega (arith, key_between lo (suc i) o.0 a, ordered_bounds (suc i) hi r o.1)
key_between lo hi o (at_right {i} {l} a) = omega (arith, key_between (suc i) hi o.1 a, ordered_bounds lo (suc i) l o.0)

-- The search for the key at s goes through s: it ends where a search from s on ends.
pub way_passes : {s w : ℕ} {u : Tree} (lo hi : ℕ) {q : ℕ} {t : Tree} → Ordered lo hi t → At s w u q t → reach (key_of u) t ≡ reach (key_of u) u
unfolding Ordered
way_passes lo hi o (at_root e) = refl
way_passes {u} lo hi o (at_left {v} {i} {wl} {wr} {l} {r} a) =
    let b = key_between lo (suc i) o.0 a in
    rw (reach_left (key_of u) v i wl wr l r (omega arith)) (way_passes lo (suc i) o.0 a)
way_passes {u} lo hi o (at_right {v} {i} {wl} {wr} {l} {r} a) =
    let b = key_between (suc i) hi o.1 a in
    rw (reach_right (key_of u) v i wl wr l r (omega arith)) (way_passes (suc i) hi o.1 a)

-- What the descent answers are the slots that s hangs from,
pub way_is : {s w g p : ℕ} {u : Tree} (lo hi : ℕ) {a b q : ℕ} {t : Tree} → Ordered lo hi t → count s t ≤ 1 → Hangs s w u g p a b q t → way_from (key_of u) s a b t ≡ (g, p)
unfolding Ordered way_from count slot_of
way_is {s} {g} {p} {u} lo hi o n (hangs_here e) = go u e
  where
    go : (u : Tree) → s ≡ slot_of u → way_from (key_of u) s g p u ≡ (g, p)
    go (leaf v k) e = refl
    go (node v k wl l wr r) e = rw (eq-eqb s v e, way_from)
way_is {s} {u} lo hi o n (hangs_left {v} {i} h) =
    let d = at_count (hangs_at h) in
    let k = key_between lo (suc i) o.0 (hangs_at h) in
    rw (is_other s v (omega arith), le-leb (key_of u) i (omega arith), way_from) (way_is lo (suc i) o.0 (omega arith) h)
way_is {s} {u} lo hi o n (hangs_right {v} {i} h) =
    let d = at_count (hangs_at h) in
    let k = key_between (suc i) hi o.1 (hangs_at h) in
    rw (is_other s v (omega arith), lt-leb (key_of u) i (omega arith), way_from) (way_is (suc i) hi o.1 (omega arith) h)

-- wherever it stands.
pub record Above (s w : ℕ) (u : Tree) (a b q : ℕ) (t : Tree) : Type 0 where
  pub grand : ℕ
  pub parent : ℕ
  pub hangs : Hangs s w u grand parent a b q t

pub hang : {s w : ℕ} {u : Tree} (a b : ℕ) {q : ℕ} {t : Tree} → At s w u q t → Above s w u a b q t
hang a b (at_root e) = record { grand = a; parent = b; hangs = hangs_here e }
hang a b (at_left {v} h) = let c = hang b v h in record { grand = c.grand; parent = c.parent; hangs = hangs_left c.hangs }
hang a b (at_right {v} h) = let c = hang b v h in record { grand = c.grand; parent = c.parent; hangs = hangs_right c.hangs }

pub way_exact : (lo hi : ℕ) {s w : ℕ} {u t : Tree} → Ordered lo hi t → count s t ≤ 1 → At s w u 1 t
    → HangsIn s w u (way (key_of u) s t).0 (way (key_of u) s t).1 t
way_exact lo hi o n h = let c = hang 0 0 h in rw (way_is lo hi o n c.hangs) c.hangs
