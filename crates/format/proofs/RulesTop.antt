-- The audit's rules on the tree alone, read on all of a held tree or on none, say that it is good. Joins RulesOrder.antt and
-- RulesSums.antt at the root, whose weight is 1. Assumes nothing.
use mathlib.Core.Path.{◌≡◌, refl, ap, ◌∙◌}
use mathlib.Core.Bool.{Bool, true, ◌&&◌, and-eq-true_iff}
use mathlib.Core.List.{List}
use Prim.Native.Nat.{ℕ, ◌≤◌, ◌<◌}
use native.Mathlib.Omega.{arith}
use lib.Dec.{eqb, leb, ltb, leb-zero}
use lib.ListN.{length, get_or}
use borrow.Author.Tests.{leb-true, le-leb, lt-ltb, ne_eqb}
use Rattle.format.specs.Words.{head_of, root_of}
use Rattle.format.specs.Shows.{Holds, HoldsTop}
use Rattle.format.specs.Audit.{Found, nothing, follow, slots_of, all, same, children, routed, root_weighed, root_sums, tree_of, top_of}
use Rattle.tree.specs.Codes.{most_level}
use Rattle.tree.specs.Tree.{Tree, leaf, node, slot_of, size, level, sums_from, count_in}
use Rattle.tree.specs.State.{Top, empty, full, nodes, level_top, count_top, Good, GoodTop, key_end}
use Rattle.format.proofs.Frame.{holds_root}
use Rattle.format.proofs.RulesTests.{and_intro}
use Rattle.format.proofs.RulesSlots.{zero_no_slot}
use Rattle.format.proofs.RulesFound.{found_of, count_found, length_found, size_pos, tree_found_lem, follow_out, holds_found, holds_children}
use Rattle.format.proofs.RulesOrder.{all_keys, ordered_routed, routed_ordered}
use Rattle.format.proofs.RulesSums.{root_sums_lem, level_first, chromatic_sums, sums_chromatic, chromatic_weighed, root_weighed_lem}

-- all of a tree, or nothing of none
unfoldable pub found_top : Top → Found
found_top empty = nothing
found_top (full t) = found_of 1 t

pub count_top_lem : (s : ℕ) (T : Top) → count_in s (slots_of (found_top T)) ≡ count_top s T
unfolding found_top count_top slots_of count_in
count_top_lem s empty = refl
count_top_lem s (full t) = count_found s 1 t

pub length_top : (T : Top) → length (slots_of (found_top T)) ≡ nodes T
unfolding found_top nodes slots_of
length_top empty = refl
length_top (full t) = length_found 1 t

-- The last rule's test, and the three rules on the tree alone.
abbrev pub sums_agree : Found → Bool
sums_agree f = all (λ n. eqb n (head_of (root_sums f))) (root_sums f) && leb (head_of (root_sums f)) most_level

pub record TreeRules (f : Found) : Type 0 where
  pub order : routed f ≡ true
  pub weights : root_weighed f ≡ true
  pub sums : sums_agree f ≡ true

good_rules : {p : List ℕ} {t : Tree} → Holds p 1 t → Good t → TreeRules (found_of 1 t)
good_rules {t = t} h g = record {
  order = ordered_routed 0 key_end h g.ordered;
  weights = rw (root_weighed_lem t) (chromatic_weighed h g.chromatic (omega arith) g.low);
  sums = rw (root_sums_lem h, level_first t) (and_intro (chromatic_sums (level t) 0 1 t g.chromatic (omega arith)) (le-leb (level t) most_level g.low));
}

rules_good : {p : List ℕ} {t : Tree} → ((i : ℕ) → get_or p i 0 < key_end) → Holds p 1 t → TreeRules (found_of 1 t) → Good t
rules_good {p} {t} words h g =
    let low = all_keys (leb 0) (λ i. leb-zero (get_or p i 0)) h in
    let high = all_keys (λ x. ltb x key_end) (λ i. lt-ltb (get_or p i 0) key_end (words i)) h in
    let a = (and-eq-true_iff (all (λ n. eqb n (level t)) (sums_from 0 t)) (leb (level t) most_level)).0 (rw (root_sums_lem h, level_first t) at g.sums) in
    record {
      ordered = routed_ordered 0 key_end h g.order low high;
      chromatic = sums_chromatic (level t) 0 h (rw (root_weighed_lem t) at g.weights) a.0;
      low = leb-true (level t) most_level a.1;
    }

full_found : (w : ℕ) (t : Tree) → top_of (found_of w t) ≡ full (tree_of (found_of w t))
unfolding found_of top_of
full_found w (leaf s k) = refl
full_found w (node s k wl l wr r) = refl

-- of a top that the words hold
module _ (p : List ℕ) where
  pub top_found : (T : Top) → HoldsTop p T → top_of (found_top T) ≡ T
  unfolding found_top top_of HoldsTop
  top_found empty h = refl
  top_found (full t) h = full_found 1 t ∙ ap {B = Top} full (tree_found_lem h)

  pub top_rules : (T : Top) → HoldsTop p T → GoodTop T → TreeRules (found_top T)
  unfolding found_top HoldsTop GoodTop routed root_weighed root_sums all
  top_rules empty h g = record { order = refl; weights = refl; sums = refl }
  top_rules (full t) h g = good_rules h g

  pub rules_top : (T : Top) → ((i : ℕ) → get_or p i 0 < key_end) → HoldsTop p T → TreeRules (found_top T) → GoodTop T
  unfolding found_top HoldsTop GoodTop
  rules_top empty words h g = tt
  rules_top (full t) words h g = rules_good words h g

  -- L, by the first leaf's sum
  pub top_level : (T : Top) → HoldsTop p T → head_of (root_sums (found_top T)) ≡ level_top T
  unfolding found_top HoldsTop root_sums level_top
  top_level empty h = refl
  top_level (full t) h = rw (root_sums_lem h) (level_first t)

  pub top_root : (T : Top) → HoldsTop p T → same (eqb (root_of T) 0) (eqb (nodes T) 0) ≡ true
  unfolding HoldsTop root_of nodes same
  top_root empty h = refl
  top_root (full t) h = rw (ne_eqb (slot_of t) 0 (omega (arith, (holds_root h).from_one)), ne_eqb (size t) 0 (omega (arith, size_pos t)))

  pub top_follow : (T : Top) → HoldsTop p T → (n : ℕ) → nodes T ≤ n → follow n p (root_of T) ≡ found_top T
  unfolding HoldsTop nodes root_of found_top
  top_follow empty h n b = follow_out p n 0 (zero_no_slot p)
  top_follow (full t) h n b = holds_found p h n b

  pub top_children : (T : Top) → HoldsTop p T → children p (found_top T) ≡ true
  unfolding HoldsTop found_top children
  top_children empty h = refl
  top_children (full t) h = holds_children p h
