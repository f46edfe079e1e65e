-- The report's walks, at one slot: what they answer from the children's answers, and that every number on the way stays far below 2 ^ 64
-- (crate tree's Limits). A conflict v to u to t is counted at u, which knows its red child edges and, once its children have answered,
-- its size; an overweighted edge is counted at its lower end. What a leaf and a node answer is said once, for whatever is counted.
-- Assumes nothing.
use mathlib.Core.Path.{◌≡◌, refl, ap, sym, ◌∙◌}
use mathlib.Core.Logic.{◌≢◌}
use mathlib.Core.Bool.{Bool, true, false, false≢true}
use mathlib.Core.List.{List}
use Prim.Native.Nat.{ℕ, zero, suc, pred, ◌+◌, ◌*◌, ◌-◌, ◌≤◌}
use native.Mathlib.Nat.{mul-le-mul, mul-le-mul_left}
use native.Mathlib.Omega.{arith}
use Rattle.tree.specs.Codes.{most_slots}
use Rattle.tree.specs.Tree.{Tree, leaf, node, size, red, one}
use Rattle.tree.specs.Distances.{outside, if_red, for_red, conflicts, red_distance, over_distance, excess_weight}
use Rattle.tree.proofs.Tests.{is_red}
use Rattle.tree.proofs.Below.{if_red_le, for_red_times}
use Rattle.tree.proofs.Limits.{conflicts_few, red_distance_le, excess_le, over_distance_le}
use Rattle.format.specs.declared.Slot.{Slot}
use Rattle.format.specs.Words.{slot_at}
use Rattle.pool.specs.Walks.{most_sum}
use Rattle.pool.specs.Standing.{Standing}
use Rattle.pool.proofs.Standing.{standing_weight, standing_leaf, standing_node}
use Rattle.report.specs.declared.Counted.{Counted}
use Rattle.report.specs.Counted.{counted, lone_leaf, joined, adding, reds_in, overs_in, Counts, Small, Fits}

pub counted_eq : {m x d m' x' d' : ℕ} → m ≡ m' → x ≡ x' → d ≡ d' → counted m x d ≡ counted m' x' d'
counted_eq e f g = rw (e, f, g)

-- A leaf, and a node without the edge to it: whatever f counts, if it counts nothing of a leaf and adds up what it counts of subtrees.
module _ {p : List ℕ} {s n left : ℕ} {c : Slot} {r : Counted} (e : c ≡ slot_at p s) where
  pub counts_leaf : (f : Tree → Counted) → ((s k : ℕ) → lone_leaf ≡ f (leaf s k)) → c.left ≡ 0 → r ≡ lone_leaf → Counts (λ w t. f t) p s n left r
  counts_leaf f none z g S = rw (standing_leaf S e z) (g ∙ none s c.key)

  pub counts_node : (f : ℕ → Tree → Counted) (g : Tree → Counted) → ((s k wl wr : ℕ) (l r : Tree) → joined (f wl l) (f wr r) ≡ g (node s k wl l wr r))
      → c.left ≢ 0 → {a b : Counted} → Counts f p c.left n (left - 1) a → Counts f p c.right n (left - 1) b → r ≡ joined a b → Counts (λ w t. g t) p s n left r
  counts_node f g both z A B j S =
      let C = standing_node S e z in
      let L = C.on_left in
      let R = C.on_right in
      rw C.tree_is (j ∙ rw (A L, B R) (both _ _ _ _ _ _))

pub reds_leaf : (n w s k : ℕ) → lone_leaf ≡ reds_in n w (leaf s k)
unfolding reds_in size if_red for_red conflicts red_distance
reds_leaf n zero s k = refl
reds_leaf n (suc w) s k = refl

pub reds_node : (n s k wl wr : ℕ) (l r : Tree) → joined (reds_in n wl l) (reds_in n wr r) ≡ reds_in n 1 (node s k wl l wr r)
unfolding reds_in size if_red conflicts red_distance
reds_node n s k wl wr l r = counted_eq refl (omega arith) (omega arith)

pub overs_leaf : (n s k : ℕ) → lone_leaf ≡ overs_in n 1 (leaf s k)
unfolding overs_in size excess_weight over_distance
overs_leaf n s k = counted_eq refl (omega arith) (omega arith)

pub overs_node : (n s k wl wr : ℕ) (l r : Tree) → joined (overs_in n wl l) (overs_in n wr r) ≡ overs_in n 1 (node s k wl l wr r)
unfolding overs_in size excess_weight over_distance
overs_node n s k wl wr l r = counted_eq refl (omega arith) (omega arith)

-- A conflict is counted below a red edge only: so the rule of the edge that leads to a tree counts by the edge's weight.
reds_other : (n w : ℕ) (t : Tree) → false ≡ red w → reds_in n 1 t ≡ reds_in n w t
unfolding red reds_in if_red
reds_other n zero t e = absurd (false≢true e)
reds_other n (suc w) t e = refl

module _ {p : List ℕ} {s n left : ℕ} {r : Counted} where
  pub by_red : true ≡ red (slot_at p s).weight → Counts (λ w t. reds_in n 0 t) p s n left r → Counts (reds_in n) p s n left r
  by_red e f S = f S ∙ rw (is_red S.weight (sym (e ∙ ap red (standing_weight S refl))))

  pub by_other : false ≡ red (slot_at p s).weight → Counts (λ w t. reds_in n 1 t) p s n left r → Counts (reds_in n) p s n left r
  by_other e f S = f S ∙ reds_other n S.weight S.tree (e ∙ ap red (standing_weight S refl))

-- With the edge to it: below a red edge a node adds its own conflicts, one for each red child edge ..
red_counts : (w : ℕ) → one (red w) ≡ if_red w 1
unfolding one red if_red
red_counts zero = refl
red_counts (suc w) = refl

pub counts_red : {p : List ℕ} {s n left far : ℕ} {c : Slot} {u r : Counted} {x y : Bool} → c ≡ slot_at p s → c.left ≢ 0
    → x ≡ red (slot_at p c.left).weight → y ≡ red (slot_at p c.right).weight
    → Counts (λ w t. reds_in n 1 t) p s n left u → far ≡ n - u.nodes → r ≡ adding u (one x + one y) ((one x + one y) * far) → Counts (λ w t. reds_in n 0 t) p s n left r
unfolding reds_in if_red for_red outside size
counts_red {p} {n = n} {c = c} {x = x} {y} e z ex ey f g add S =
    let C = standing_node S e z in
    let t = S.tree in
    let own : one x + one y ≡ for_red 1 t = rw (C.tree_is, ex, ey, standing_weight C.on_left refl, standing_weight C.on_right refl, red_counts, red_counts) in
    let far-is : (one x + one y) * (n - size t) ≡ for_red (n - size t) t = rw own (sym (for_red_times (n - size t) t)) in
    add ∙ rw (g, f S) (counted_eq refl (omega (arith, own)) (omega (arith, far-is)))

-- .. and an edge counts by its excess, and by that times outside(u).
pub counts_over : {p : List ℕ} {s n left above far : ℕ} {c : Slot} {u r : Counted} → c ≡ slot_at p s → above ≡ pred c.weight
    → Counts (λ w t. overs_in n 1 t) p s n left u → far ≡ n - u.nodes → r ≡ adding u above (above * far) → Counts (overs_in n) p s n left r
unfolding overs_in outside
counts_over e m f g add S = add ∙ rw (g, f S, m, standing_weight S e) (counted_eq refl (omega arith) (omega arith))

-- All these numbers are small: at most two conflicts at a node, and no edge weighs more than L and the root's edge.
near : (m n : ℕ) → m ≤ most_slots → n ≤ most_slots → m * n ≤ most_slots * most_slots
near m n h i = mul-le-mul h i

module _ {p : List ℕ} {s n left : ℕ} (S : Standing p s n left) where
  reds_few : (w : ℕ) → Small (reds_in n w S.tree)
  unfolding reds_in outside
  reds_few w =
      let t = S.tree in
      let least : conflicts t + for_red 1 t ≤ most_slots = omega (arith, conflicts_few t, S.inside, S.few) in
      let far = for_red_times (n - size t) t in
      let each = mul-le-mul_left {m = n - size t} {n = n} (for_red 1 t) (omega arith) in
      let all = near (conflicts t + for_red 1 t) n least (omega (arith, S.few)) in
      record {
        nodes_small = omega (arith, S.inside, S.few);
        number_small = omega (arith, if_red_le w (for_red 1 t));
        distance_small = omega (arith, if_red_le w (for_red (n - size t) t), red_distance_le n t);
      }

  overs_few : (w : ℕ) → w ≤ most_sum → Small (overs_in n w S.tree)
  unfolding overs_in outside
  overs_few w h =
      let t = S.tree in
      let below = over_distance_le most_sum n S.weight t S.fine.chromatic (omega (arith, S.fine.low)) in
      let edge = mul-le-mul {n₁ = pred w} {m₁ = n - size t} {n₂ = most_sum} {m₂ = n} (omega arith) (omega arith) in
      let all = near n (size t) (omega (arith, S.few)) (omega (arith, S.inside, S.few)) in
      record {
        nodes_small = omega (arith, S.inside, S.few);
        number_small = omega (arith, excess_le most_sum S.weight t S.fine.chromatic (omega (arith, S.fine.low)), mul-le-mul_left {m = size t} {n = most_slots} most_sum (omega (arith, S.inside, S.few)));
        distance_small = omega arith;
      }

  -- the children's answers
  pub reds_small : {r : Counted} → Counts (reds_in n) p s n left r → Small r
  reds_small f = rw (f S) (reds_few S.weight)

  pub overs_small : {r : Counted} → Counts (overs_in n) p s n left r → Small r
  overs_small f = rw (f S) (overs_few S.weight (omega (arith, S.fine.low)))

  -- and what a node adds to them
  fits : {u : Counted} {number times far : ℕ} → Small u → number ≤ most_sum → times ≤ most_sum → far ≤ n → Fits u number (times * far)
  fits {times = times} {far} c a b g =
      let h = mul-le-mul {n₁ = times} {m₁ = far} {n₂ = most_sum} {m₂ = most_slots} b (omega (arith, S.few)) in
      record { number_fits = omega (arith, c.number_small); distance_fits = omega (arith, c.distance_small) }

  module _ {u : Counted} (f : Counts (λ w t. reds_in n 1 t) p s n left u) where
    pub reds_inside : u.nodes ≤ n
    unfolding reds_in
    reds_inside = rw (f S) S.inside

    pub reds_fit : {own far : ℕ} → own ≤ 2 → far ≡ n - u.nodes → Fits u own (own * far)
    reds_fit a g = fits (rw (f S) (reds_few 1)) (omega arith) (omega arith) (omega arith)

  module _ {u : Counted} (f : Counts (λ w t. overs_in n 1 t) p s n left u) where
    pub overs_inside : u.nodes ≤ n
    unfolding overs_in
    overs_inside = rw (f S) S.inside

    pub excess_low : {c : Slot} {above : ℕ} → c ≡ slot_at p s → above ≡ pred c.weight → above ≤ most_sum
    excess_low e m = omega (arith, standing_weight S e, S.fine.low)

    pub overs_fit : {number above far : ℕ} → number ≤ most_sum → above ≤ most_sum → far ≡ n - u.nodes → Fits u number (above * far)
    overs_fit a b g = fits (rw (f S) (overs_few 1 (omega arith))) a b (omega arith)
