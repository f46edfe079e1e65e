-- The reader's tests of a tree say what a sound State asks of it. Assumes nothing.
use mathlib.Core.Path.{◌≡◌}
use mathlib.Core.Logic.{◌↔◌}
use mathlib.Core.Bool.{true, ◌&&◌}
use lib.Dec.{eqb, leb, ltb}
use Prim.Native.Nat.{ℕ, suc, ◌+◌}
use borrow.Author.Tests.{eqb-true, eq-eqb, leb-true, le-leb, ltb-true, lt-ltb}
use Rattle.tree.specs.Codes.{most_level}
use Rattle.tree.specs.Tree.{Tree, leaf, node, level, Ordered, Chromatic}
use Rattle.tree.specs.State.{key_end, Good}
use Rattle.tree.proofs.Tests.{two_true}
use Rattle.format.proofs.RulesTests.{and_intro}
use Rattle.saved.specs.Loaded.{in_order, same_sums, is_good}

in_order_lem : (lo hi : ℕ) (t : Tree) → in_order lo hi t ≡ true → Ordered lo hi t
unfolding in_order Ordered
in_order_lem lo hi (leaf s k) e = let b = two_true (leb lo k) (ltb k hi) e in (leb-true _ _ b.0, ltb-true _ _ b.1)
in_order_lem lo hi (node s k wl l wr r) e =
    let b = two_true (in_order lo (suc k) l) (in_order (suc k) hi r) e in (in_order_lem lo (suc k) l b.0, in_order_lem (suc k) hi r b.1)

order_in : (lo hi : ℕ) (t : Tree) → Ordered lo hi t → in_order lo hi t ≡ true
unfolding in_order Ordered
order_in lo hi (leaf s k) o = and_intro (le-leb _ _ o.0) (lt-ltb _ _ o.1)
order_in lo hi (node s k wl l wr r) o = and_intro (order_in lo (suc k) l o.0) (order_in (suc k) hi r o.1)

same_sums_lem : (w : ℕ) (t : Tree) → same_sums w t ≡ true → Chromatic w t
unfolding same_sums Chromatic
same_sums_lem w (leaf s k) e = leb-true _ _ e
same_sums_lem w (node s k wl l wr r) e =
    let b = two_true (eqb (wl + level l) (wr + level r)) (same_sums wl l && same_sums wr r) e in
    let c = two_true (same_sums wl l) (same_sums wr r) b.1 in
    (eqb-true _ _ b.0, same_sums_lem wl l c.0, same_sums_lem wr r c.1)

sums_same : (w : ℕ) (t : Tree) → Chromatic w t → same_sums w t ≡ true
unfolding same_sums Chromatic
sums_same w (leaf s k) c = le-leb _ _ c
sums_same w (node s k wl l wr r) c = and_intro (eq-eqb _ _ c.0) (and_intro (sums_same wl l c.1) (sums_same wr r c.2))

pub good_tested : (t : Tree) → (is_good t ≡ true) ↔ Good t
unfolding is_good
good_tested t = (found, shown)
  where
    found : is_good t ≡ true → Good t
    found e =
        let b = two_true (in_order 0 key_end t) (same_sums 1 t && leb (level t) most_level) e in
        let c = two_true (same_sums 1 t) (leb (level t) most_level) b.1 in
        record { ordered = in_order_lem 0 key_end t b.0; chromatic = same_sums_lem 1 t c.0; low = leb-true _ _ c.1 }

    shown : Good t → is_good t ≡ true
    shown g = and_intro (order_in 0 key_end t g.ordered) (and_intro (sums_same 1 t g.chromatic) (le-leb _ _ g.low))
