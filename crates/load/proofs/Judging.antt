-- The reader's judgment of a tree in the bytes, return by return: what is found is a tree that fits, and where a fault is found there is none.
-- The place decides the tree but for its slots (`one_tree`), so no other tree need be looked for. The rules of a leaf and of a node are the
-- audit's (pool's Tours). Assumes nothing.
use mathlib.Core.Path.{◌≡◌, refl, ap, sym, ◌∙◌}
use mathlib.Core.Logic.{◌≢◌}
use mathlib.Core.Bool.{Bool, true, false, false≢true}
use mathlib.Core.List.{List}
use Prim.Native.Nat.{ℕ, ◌+◌, ◌*◌, ◌-◌, ◌/◌, ◌%◌, ◌≤◌, ◌<◌}
use native.Mathlib.Omega.{arith}
use native.Mathlib.Numerals.{add-one}
use Rattle.tree.specs.Tree.{Tree, leaf, node, size, depth, level, Ordered, Chromatic}
use Rattle.tree.proofs.Depth.{depth_pos, depth_half}
use Rattle.tree.proofs.Order.{ordered_widen}
use Rattle.format.specs.declared.Slot.{Slot}
use Rattle.format.specs.Words.{slot}
use Rattle.std.specs.Prelude.{Option, Some, None, Ok, Err}
use Rattle.std.specs.Result.{result_ok}
use Rattle.encoding.specs.Numbers.{Reading, number}
use Rattle.pool.specs.declared.Whole.{Whole}
use Rattle.pool.specs.Walks.{most_sum}
use Rattle.pool.specs.Visits.{leaf_test, leaf_walk, join_test, join_walk}
use Rattle.pool.proofs.Tours.{LeafFine, leaf_facts, leaf_test_lem, leaf_good, leaf_bad, JoinFine, join_facts, join_test_lem, join_good, join_bad}
use Rattle.encoding.specs.declared.Fault.{Fault}
use Rattle.encoding.proofs.Readings.{one_read, not_wrong}
use Rattle.saved.specs.There.{TreeAt, leaf_at_case, node_at}
use Rattle.saved.proofs.Alike.{alike_size, alike_level}
use Rattle.saved.proofs.There.{NodeAt, first_weight, leaf_here, node_here, one_tree}
use Rattle.load.specs.Judging.{Fits, Found, NoneFound}

-- what was read, from what is left of it where the fault is dropped
pub read_ok : {x y : Reading ℕ} {o : Option (ℕ × ℕ)} {v n : ℕ} → x ≡ y → o ≡ result_ok x → o ≡ Some (v, n) → y ≡ Ok (v, n)
read_ok {x = Ok p} {v = v} {n = n} e f g = let same : ◌≡◌ {A = ℕ × ℕ} p (v, n) = cc in sym e ∙ rw same
read_ok {x = Err w} e f g = cc

-- what is found of a tree, whose numbers end before place `next`
abbrev pub WalkSays : List ℕ → ℕ → ℕ → ℕ → ℕ → ℕ → ℕ → Option Whole → Type 0
WalkSays bytes i lo hi left most next None = NoneFound bytes i lo hi left most
WalkSays bytes i lo hi left most next (Some f) = Found bytes i lo hi left most next f.rest f.sum

-- The first number of a tree stands where the tree does.
pub record First (bytes : List ℕ) (i w : ℕ) (t : Tree) : Type 0 where
  pub value : ℕ
  pub next : ℕ
  pub reads : number bytes i ≡ Ok (value, next)
  pub weight_is : w ≡ value / 2

pub first_number_lem : {bytes : List ℕ} {i j w : ℕ} {t : Tree} → TreeAt bytes i w t j → First bytes i w t
first_number_lem {w = w} (leaf_at_case {m = m} e f) = record { value = 2 * w; next = m; reads = e; weight_is = omega arith }
first_number_lem {w = w} (node_at {m = m} e f a b) = record { value = 2 * w + 1; next = m; reads = e; weight_is = omega arith }

module _ (bytes : List ℕ) (at lo hi left most : ℕ) where
  pub judge_short : left < 1 → NoneFound bytes at lo hi left most
  judge_short h w t j there fits few = omega (arith, depth_pos t, fits.deep)

  pub judge_none : most < 1 → NoneFound bytes at lo hi left most
  judge_none h w t j there fits few = omega (arith, depth_pos t, depth_half t)

  pub judge_cut : {f : Fault} → number bytes at ≡ Err f → NoneFound bytes at lo hi left most
  judge_cut e w t j there fits few = not_wrong (first_number_lem there).reads e

  pub judge_cut_2 : {a i : ℕ} {f : Fault} → number bytes at ≡ Ok (a, i) → number bytes i ≡ Err f → NoneFound bytes at lo hi left most
  judge_cut_2 e f w t j (leaf_at_case g h) fits few = not_wrong (rw (one_read g e).1 at h) f
  judge_cut_2 e f w t j (node_at g h a b) fits few = not_wrong (rw (one_read g e).1 at h) f

-- Two numbers were read, and there may be a node.
module _ (bytes : List ℕ) (at lo hi left most : ℕ) {a i k j : ℕ} (first : number bytes at ≡ Ok (a, i)) (second : number bytes i ≡ Ok (k, j))
    (deep : 1 ≤ left) (many : 1 ≤ most) where
  -- An even number is a leaf's.
  leaf_fine : {w n : ℕ} {t : Tree} → a % 2 ≡ 0 → TreeAt bytes at w t n → Fits lo hi left w t → LeafFine (slot k 0 0 (a / 2)) lo hi
  unfolding Ordered Chromatic level
  leaf_fine {w} even there fits =
      let P = leaf_here first second even there in
      let w-is = first_weight first second there in
      let o = rw P.tree_is at fits.ordered in
      let c = rw P.tree_is at fits.chromatic in
      let l = rw P.tree_is at fits.low in
      record { bare = refl; not_red = omega arith; low = omega arith; from = o.0; below = o.1 }

  pub judge_leaf : a % 2 ≡ 0 → {r : Option Whole} → r ≡ leaf_walk (slot k 0 0 (a / 2)) lo hi (most - 1) → WalkSays bytes at lo hi left most j r
  unfolding Ordered Chromatic level size depth
  judge_leaf even {r} e = rw e (go (leaf_test c lo hi) refl)
    where
      c : Slot
      c = slot k 0 0 (a / 2)

      go : (b : Bool) → leaf_test c lo hi ≡ b → WalkSays bytes at lo hi left most j (leaf_walk c lo hi (most - 1))
      go true f =
          let fine = leaf_facts c lo hi (most - 1) f in
          let z : 2 * (a / 2) ≡ a = omega arith in
          rw (leaf_good c lo hi (most - 1) fine) (record {
            weight = a / 2;
            tree = leaf 0 k;
            there = leaf_at_case {i = at} {m = i} {w = a / 2} (rw z first) second;
            fits = record { ordered = (fine.from, fine.below); chromatic = fine.not_red; low = omega (arith, fine.low); deep = deep };
            nodes_are = omega arith;
            sum_is = omega arith;
          })
      go false f = rw (leaf_bad c lo hi (most - 1) (λ fine. false≢true (sym f ∙ leaf_test_lem c lo hi (most - 1) fine)))
          (λ w t n there fits few. false≢true (sym f ∙ leaf_test_lem c lo hi (most - 1) (leaf_fine even there fits)))

  -- An odd number is an inner node's, over two trees that fit.
  record Parts (w n : ℕ) (t : Tree) : Type 0 where
    pub stands : NodeAt bytes k j w n t
    pub left_fits : Fits lo (k + 1) (left - 1) stands.wl stands.l
    pub right_fits : Fits (k + 1) hi (left - 1) stands.wr stands.r
    pub nodes_are : size t ≡ 1 + size stands.l + size stands.r
    pub same_sum : stands.wl + level stands.l ≡ stands.wr + level stands.r
    pub low : a / 2 + (stands.wl + level stands.l) ≤ most_sum

  module _ (odd : a % 2 ≢ 0) where
    parts : {w n : ℕ} {t : Tree} → TreeAt bytes at w t n → Fits lo hi left w t → Parts w n t
    unfolding Ordered Chromatic level size depth
    parts {w} there fits =
        let P = node_here first second odd there in
        let w-is = first_weight first second there in
        let o = rw P.tree_is at fits.ordered in
        let c = rw P.tree_is at fits.chromatic in
        let d = rw P.tree_is at fits.deep in
        let s = rw P.tree_is at fits.low in
        record {
          stands = P;
          left_fits = record { ordered = rw add-one o.0; chromatic = c.1; low = omega arith; deep = omega arith };
          right_fits = record { ordered = rw add-one o.1; chromatic = c.2; low = omega (arith, c.0); deep = omega arith };
          nodes_are = ap size P.tree_is;
          same_sum = c.0;
          low = omega arith;
        }

    -- None on the left, with keys from x on, x being no more than lo, and of y nodes or fewer, y being enough.
    pub judge_left : (x y : ℕ) → x ≤ lo → most - 1 ≤ y → NoneFound bytes j x (k + 1) (left - 1) y → NoneFound bytes at lo hi left most
    judge_left x y low-enough enough absent w t n there fits few =
        let P = parts there fits in
        let A = P.stands in
        let F = P.left_fits in
        let wider : Fits x (k + 1) (left - 1) A.wl A.l = record {
          ordered = ordered_widen lo (k + 1) x (k + 1) A.l low-enough (omega arith) F.ordered;
          chromatic = F.chromatic;
          low = F.low;
          deep = F.deep;
        } in
        absent A.wl A.l A.m A.left_there wider (omega (arith, P.nodes_are))

    module _ {x y m more al : ℕ} (A : Found bytes j x (k + 1) (left - 1) y m more al) where
      -- what the left side is, was found
      record LeftFound (w n : ℕ) (t : Tree) : Type 0 where
        pub wr : ℕ
        pub r : Tree
        pub right_there : TreeAt bytes m wr r n
        pub right_fits : Fits (k + 1) hi (left - 1) wr r
        pub nodes_are : size t + more ≡ 1 + y + size r
        pub same_sum : al ≡ wr + level r
        pub low : a / 2 + al ≤ most_sum

      left_found : {w n : ℕ} {t : Tree} → TreeAt bytes at w t n → Fits lo hi left w t → LeftFound w n t
      left_found there fits =
          let P = parts there fits in
          let Q = P.stands in
          let S = one_tree Q.left_there A.there in
          let sum : Q.wl + level Q.l ≡ al = omega (arith, S.weight_same, alike_level S.tree_same, A.sum_is) in
          record {
            wr = Q.wr;
            r = Q.r;
            right_there = rw S.end_same at Q.right_there;
            right_fits = P.right_fits;
            nodes_are = omega (arith, P.nodes_are, alike_size S.tree_same, A.nodes_are);
            same_sum = sym sum ∙ P.same_sum;
            low = omega (arith, P.low);
          }

      pub judge_right : (z : ℕ) → most - 1 ≤ y → more ≤ z → NoneFound bytes m (k + 1) hi (left - 1) z → NoneFound bytes at lo hi left most
      judge_right z enough enough-2 absent w t n there fits few =
          let L = left_found there fits in absent L.wr L.r n L.right_there L.right_fits (omega (arith, L.nodes_are))

      module _ {z end rest bl : ℕ} (B : Found bytes m (k + 1) hi (left - 1) z end rest bl) where
        join_here : {w n : ℕ} {t : Tree} → TreeAt bytes at w t n → Fits lo hi left w t → JoinFine (a / 2) al bl
        join_here there fits =
            let L = left_found there fits in
            let S = one_tree L.right_there B.there in
            record { same_sum = omega (arith, L.same_sum, S.weight_same, alike_level S.tree_same, B.sum_is); low = L.low }

        -- Where the two cannot be joined there is no tree, just as they are asked for or not.
        pub judge_apart : {r : Option Whole} → r ≡ join_walk (a / 2) rest al bl → r ≡ None → NoneFound bytes at lo hi left most
        judge_apart e none w t n there fits few =
            let joins = join_good (a / 2) rest al bl (join_here there fits) in
            cc

        -- Both were found, just as they are asked for.
        pub judge_join : x ≡ lo → y ≡ most - 1 → z ≡ more → {r : Option Whole} → r ≡ join_walk (a / 2) rest al bl → WalkSays bytes at lo hi left most end r
        unfolding Ordered Chromatic level size depth
        judge_join from same same-2 {r} e = rw e (go (join_test (a / 2) al bl) refl)
          where
            go : (b : Bool) → join_test (a / 2) al bl ≡ b → WalkSays bytes at lo hi left most end (join_walk (a / 2) rest al bl)
            go true f =
                let fine = join_facts (a / 2) rest al bl f in
                let z : 2 * (a / 2) + 1 ≡ a = omega arith in
                rw (join_good (a / 2) rest al bl fine) (record {
                  weight = a / 2;
                  tree = node 0 k A.weight A.tree B.weight B.tree;
                  there = node_at {i = at} {m = i} {w = a / 2} (rw z first) second A.there B.there;
                  fits = record {
                    ordered = (rw (add-one, from) at A.fits.ordered, rw add-one at B.fits.ordered);
                    chromatic = (omega (arith, A.sum_is, B.sum_is, fine.same_sum), A.fits.chromatic, B.fits.chromatic);
                    low = omega (arith, A.sum_is, fine.low);
                    deep = omega (arith, A.fits.deep, B.fits.deep);
                  };
                  nodes_are = omega (arith, A.nodes_are, B.nodes_are);
                  sum_is = omega (arith, A.sum_is);
                })
            go false f = rw (join_bad (a / 2) rest al bl (λ fine. false≢true (sym f ∙ join_test_lem (a / 2) rest al bl fine)))
                (λ w t n there fits few. false≢true (sym f ∙ join_test_lem (a / 2) rest al bl (join_here there fits)))
