-- The reader at one place: what it writes of the tree that stands there, from what is said of the two trees after its numbers. Assumes nothing.
use mathlib.Core.Path.{◌≡◌, refl, ap, sym, ◌∙◌}
use mathlib.Core.Logic.{◌≢◌}
use mathlib.Core.List.{List}
use Prim.Native.Nat.{ℕ, suc, ◌+◌, ◌-◌, ◌/◌, ◌%◌, ◌^◌, ◌≤◌, ◌<◌}
use native.Mathlib.Numerals.{add-one}
use native.Mathlib.Omega.{arith}
use Rattle.tree.specs.Tree.{Tree, leaf, node, slot_of, size, depth}
use Rattle.tree.proofs.Depth.{depth_pos}
use Rattle.format.specs.Words.{slot, put_slot}
use Rattle.std.specs.Prelude.{Ok, IsOk}
use Rattle.encoding.specs.Numbers.{number}
use Rattle.encoding.proofs.Readings.{one_read}
use Rattle.saved.specs.Saved.{renumbered}
use Rattle.saved.specs.There.{TreeAt, leaf_at_case, node_at}
use Rattle.saved.proofs.States.{size_pos}
use Rattle.saved.proofs.There.{NodeAt, first_weight, leaf_here, node_here}
use Rattle.load.specs.declared.Place.{Place}
use Rattle.load.specs.Building.{put_tree, Buildable, BuildSays}
use Rattle.load.proofs.Judging.{first_number_lem}

-- A renumbered tree begins with the first of its slots.
pub slot_first : (s : ℕ) (t : Tree) → slot_of (renumbered s t) ≡ s
unfolding slot_of renumbered
slot_first s (leaf v k) = refl
slot_first s (node v k wl l wr r) = refl

-- a tree by its parts, and its edge's weight
written : (p : List ℕ) (s : ℕ) {w v : ℕ} {t u : Tree} → t ≡ u → w ≡ v → put_tree p v (renumbered s u) ≡ put_tree p w (renumbered s t)
written p s e f = rw (e, f)

module _ {bytes : List ℕ} {at s left : ℕ} (B : Buildable bytes at s left) where
  pub build_live : 1 ≤ left
  build_live = omega (arith, depth_pos B.tree, B.deep)

  pub build_room : s + 1 < 2 ^ 32
  build_room = omega (arith, B.small, size_pos B.tree)

  -- Both numbers read.
  pub first_reads : IsOk (number bytes at)
  first_reads = rw (first_number_lem B.there).reads refl

  pub second_reads : {a i : ℕ} → number bytes at ≡ Ok (a, i) → IsOk (number bytes i)
  second_reads {i = i} first = go B.there
    where
      go : {w n : ℕ} {t : Tree} → TreeAt bytes at w t n → IsOk (number bytes i)
      go (leaf_at_case g h) = rw (← (one_read g first).1, h) refl
      go (node_at g h x y) = rw (← (one_read g first).1, h) refl

module _ {bytes : List ℕ} {at a i k j : ℕ} (first : number bytes at ≡ Ok (a, i)) (second : number bytes i ≡ Ok (k, j)) where
  -- An even number is a leaf's.
  pub build_leaf : {s : ℕ} {p q : List ℕ} → a % 2 ≡ 0 → q ≡ put_slot p s (slot k 0 0 (a / 2)) → BuildSays bytes at s p q (record { at = j; slot = s + 1 })
  unfolding put_tree renumbered size
  build_leaf {s} {p} {q} even e w t n there =
      let P = leaf_here first second even there in
      let whole : q ≡ put_tree p (a / 2) (renumbered s (leaf P.v k)) = e in
      record {
        place_is = sym P.end_is;
        slot_is = omega (arith, ap size P.tree_is);
        wrote = whole ∙ written p s P.tree_is (first_weight first second there);
      }

  -- An odd number is an inner node's.
  module _ (odd : a % 2 ≢ 0) where
    parts : {w n : ℕ} {t : Tree} → TreeAt bytes at w t n → NodeAt bytes k j w n t
    parts there = node_here first second odd there

    module _ {s left : ℕ} (B : Buildable bytes at s left) where
      sizes : let P = parts B.there in size B.tree ≡ 1 + size P.l + size P.r
      unfolding size
      sizes = ap size (parts B.there).tree_is

      deeper : let P = parts B.there in (depth P.l ≤ left - 1) × (depth P.r ≤ left - 1)
      unfolding depth
      deeper = let e = ap depth (parts B.there).tree_is in (omega (arith, B.deep), omega (arith, B.deep))

      pub buildable_left : Buildable bytes j (s + 1) (left - 1)
      buildable_left =
          let P = parts B.there in
          record { weight = P.wl; tree = P.l; end = P.m; there = P.left_there; deep = deeper.0; small = omega (arith, B.small, sizes) }

      pub buildable_right : {p mid : List ℕ} {l : Place} → BuildSays bytes j (s + 1) p mid l → Buildable bytes l.at l.slot (left - 1)
      buildable_right L =
          let P = parts B.there in
          let x = L P.wl P.l P.m P.left_there in
          record {
            weight = P.wr;
            tree = P.r;
            end = B.end;
            there = rw x.place_is P.right_there;
            deep = deeper.1;
            small = omega (arith, B.small, sizes, x.slot_is);
          }

    pub build_node : {s : ℕ} {p mid end q : List ℕ} {l r : Place} → BuildSays bytes j (s + 1) p mid l → BuildSays bytes l.at l.slot mid end r
        → {x y : ℕ} → x ≡ s + 1 → y ≡ l.slot → q ≡ put_slot end s (slot k x y (a / 2)) → BuildSays bytes at s p q r
    unfolding put_tree renumbered size
    build_node {s} {p} {q = q} {l = l} L R left_is right_is e w t n there =
        let P = parts there in
        let x = L P.wl P.l P.m P.left_there in
        let y = R P.wr P.r n (rw x.place_is P.right_there) in
        let at_right : l.slot ≡ suc s + size P.l = omega (arith, x.slot_is) in
        let children : q ≡ put_tree p (a / 2) (renumbered s (node P.v k P.wl P.l P.wr P.r)) =
        e ∙ rw (left_is, right_is, y.wrote, x.wrote, at_right, add-one s, slot_first (suc s) P.l, slot_first (suc s + size P.l) P.r) in
        record {
          place_is = y.place_is;
          slot_is = omega (arith, y.slot_is, x.slot_is, ap size P.tree_is);
          wrote = children ∙ written p s P.tree_is (first_weight first second there);
        }
