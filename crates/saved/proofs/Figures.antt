-- Sets that are alike but for their slots have the same report: N, L, excess weight, R, D, Q and the bound (`alike_report`). Assumes
-- nothing.
use mathlib.Core.Path.{◌≡◌, refl}
use Prim.Native.Nat.{ℕ}
use Rattle.tree.specs.Tree.{Tree, size}
use Rattle.tree.specs.Distances.{outside, for_red, conflicts, red_distance, over_distance, excess_weight, bound}
use Rattle.tree.specs.State.{Top, report}
use Rattle.saved.specs.Saved.{Alike, alike_leaf, alike_node, AlikeTop, alike_empty, alike_full}
use Rattle.saved.proofs.Alike.{alike_size, alike_level}

alike_red : (x : ℕ) {t u : Tree} → Alike t u → for_red x u ≡ for_red x t
unfolding for_red
alike_red x alike_leaf = refl
alike_red x (alike_node a b) = refl

alike_outside : (n : ℕ) {t u : Tree} → Alike t u → outside n u ≡ outside n t
unfolding outside
alike_outside n a = rw (alike_size a)

alike_conflicts : {t u : Tree} → Alike t u → conflicts u ≡ conflicts t
unfolding conflicts
alike_conflicts alike_leaf = refl
alike_conflicts (alike_node a b) = rw (alike_red 1 a, alike_red 1 b, alike_conflicts a, alike_conflicts b)

alike_red_distance : (n : ℕ) {t u : Tree} → Alike t u → red_distance n u ≡ red_distance n t
unfolding red_distance
alike_red_distance n alike_leaf = refl
alike_red_distance n (alike_node {l = l} {r = r} a b) =
    rw (alike_outside n a, alike_outside n b, alike_red (outside n l) a, alike_red (outside n r) b, alike_red_distance n a, alike_red_distance n b)

alike_over_distance : (n : ℕ) {t u : Tree} → Alike t u → over_distance n u ≡ over_distance n t
unfolding over_distance
alike_over_distance n alike_leaf = refl
alike_over_distance n (alike_node a b) = rw (alike_outside n a, alike_outside n b, alike_over_distance n a, alike_over_distance n b)

alike_excess : {t u : Tree} → Alike t u → excess_weight u ≡ excess_weight t
unfolding excess_weight
alike_excess alike_leaf = refl
alike_excess (alike_node a b) = rw (alike_excess a, alike_excess b)

pub alike_report : {t u : Top} → AlikeTop t u → report u ≡ report t
unfolding report bound
alike_report alike_empty = refl
alike_report (alike_full {t = t} a) =
    rw (alike_size a, alike_level a, alike_excess a, alike_conflicts a, alike_over_distance (size t) a, alike_red_distance (size t) a)
