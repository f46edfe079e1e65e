-- What is added up over the weights of all slots of a pool is what is added up over the tree's edges, the root's weight of 1 among them, if
-- a free slot's adds nothing (`weights_added`).
-- Why: each slot is in the tree once or free once; a free one has the one weight that adds nothing, and one in the tree has the weight of
-- the edge to it. Assumes nothing.
use mathlib.Core.Path.{◌≡◌, refl, ap, ◌∙◌}
use mathlib.Core.List.{List}
use native.Mathlib.Omega.{arith}
use native.Mathlib.Decide.{dec_le}
use lib.Dec.{eqb}
use Prim.Native.Nat.{ℕ, ◌+◌, ◌*◌, ◌≤◌}
use Rattle.tree.specs.Tree.{Tree, leaf, node, one, count, count_in}
use Rattle.tree.specs.State.{State, Top, empty, full, count_top, Sound}
use Rattle.tree.proofs.Counts.{one_same}
use Rattle.tree.proofs.Totals.{total, total_add, total_same, total_none, total_at, SlotsWithin}
use Rattle.tree.proofs.Demand3.{sound_held}
use Rattle.format.specs.declared.Slot.{Slot}
use Rattle.format.specs.Words.{slot_at, free_weight}
use Rattle.format.specs.Shows.{At, Holds, holds_leaf, holds_node, HoldsTop, PoolShows}
use Rattle.format.proofs.Cover.{chain_heavy}

-- f of the weight of each edge of a tree that hangs from an edge of weight w, that one included
unfoldable pub weighed : (ℕ → ℕ) → ℕ → Tree → ℕ
weighed f w (leaf s k) = f w
weighed f w (node s k wl l wr r) = f w + weighed f wl l + weighed f wr r

unfoldable pub weighed_top : (ℕ → ℕ) → Top → ℕ
weighed_top f empty = 0
weighed_top f (full t) = weighed f 1 t

-- f of the weight in slot s
abbrev pub weight_of : (ℕ → ℕ) → List ℕ → ℕ → ℕ
weight_of f p s = f (slot_at p s).weight

at_weighs : (f : ℕ → ℕ) {p : List ℕ} {s : ℕ} {c : Slot} → At p s c → weight_of f p s ≡ f c.weight
at_weighs f a = ap (λ (c : Slot). f c.weight) a.content

-- over the slots of a tree
tree_weighed : (f : ℕ → ℕ) {p : List ℕ} {w : ℕ} {t : Tree} (n : ℕ) → Holds p w t → SlotsWithin n t → total (λ s. count s t * weight_of f p s) n ≡ weighed f w t
unfolding count weighed
tree_weighed f {p} n (holds_leaf {s = v} a) h =
    let i = h v (omega (arith, one_same v v refl)) in
    total_at (weight_of f p) v n i.from_one i.to_last ∙ at_weighs f a
tree_weighed f {p} n (holds_node {s = v} {l = l} {r = r} a x y) h =
    let i = h v (omega (arith, one_same v v refl)) in
    let g : ℕ → ℕ = weight_of f p in
    let own : ℕ → ℕ = λ s. one (eqb s v) * g s in
    let left : ℕ → ℕ = λ s. count s l * g s in
    let right : ℕ → ℕ = λ s. count s r * g s in
    let parts : total (λ s. (one (eqb s v) + count s l + count s r) * g s) n ≡ total (λ s. own s + left s + right s) n = total_same _ _ n (λ s b c. omega arith) in
    omega (
      arith,
      parts,
      total_add (λ s. own s + left s) right n,
      total_add own left n,
      total_at g v n i.from_one i.to_last,
      at_weighs f a,
      tree_weighed f n x (λ s j. h s (omega arith)),
      tree_weighed f n y (λ s j. h s (omega arith)),
    )

-- over those of a State's, of which there may be none
top_weighed : (f : ℕ → ℕ) (p : List ℕ) {S : State} → Sound S → (t : Top) → S.top ≡ t → HoldsTop p t → total (λ s. count_top s t * weight_of f p s) S.slots ≡ weighed_top f t
unfolding count_top weighed_top HoldsTop
top_weighed f p {S} sound empty e h = total_same (λ s. 0 * weight_of f p s) (λ s. 0) S.slots (λ s a b. omega arith) ∙ total_none S.slots
top_weighed f p {S} sound (full t) e h = tree_weighed f S.slots h (sound_held S t sound e).inside

pub weights_added : (f : ℕ → ℕ) → f free_weight ≡ 0 → {p : List ℕ} {S : State} → Sound S → PoolShows p S → total (weight_of f p) S.slots ≡ weighed_top f S.top
weights_added f none {p} {S} sound shows =
    total_same (weight_of f p) (λ s. count_top s S.top * weight_of f p s) S.slots each ∙ top_weighed f p sound S.top refl shows.tree_held
  where
    each : (s : ℕ) → 1 ≤ s → s ≤ S.slots → weight_of f p s ≡ count_top s S.top * weight_of f p s
    each s a b = go (dec_le 1 (count_in s S.free))
      where
        go : Dec (1 ≤ count_in s S.free) → weight_of f p s ≡ count_top s S.top * weight_of f p s
        go (yes h) = rw (ap f (chain_heavy shows.chain_held s h) ∙ none) (omega arith)
        go (no h) = let c : count_top s S.top ≡ 1 = omega (arith, sound.once s a b) in rw c (omega arith)
