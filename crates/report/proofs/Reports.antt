-- The report's numbers are those of the tree that the words show, which stands at the root as the audit left it: from what the walks
-- answer there to the seven numbers. None wraps on the way (crate tree's Limits). Assumes nothing.
use mathlib.Core.Path.{◌≡◌, refl, sym, ◌∙◌}
use mathlib.Core.Logic.{◌≢◌, ◌⊎◌, inl, inr}
use mathlib.Core.List.{List}
use Prim.Native.Nat.{ℕ, zero, suc, ◌+◌, ◌*◌, ◌≤◌, ◌<◌}
use native.Mathlib.Nat.{zero-lt-suc}
use native.Mathlib.Omega.{arith}
use lib.ListN.{length, get_or-eq_default}
use Rattle.tree.specs.declared.Figures.{Figures}
use Rattle.tree.specs.Tree.{size}
use Rattle.tree.specs.Distances.{if_red, conflicts, red_distance, over_distance, excess_weight, bound, BoundFits}
use Rattle.tree.specs.State.{report, figures}
use Rattle.tree.proofs.Limits.{Fit, figures_fit}
use Rattle.format.specs.declared.Header.{Header}
use Rattle.format.specs.Audit.{state_of}
use Rattle.pool.specs.Standing.{allowance}
use Rattle.pool.proofs.Standing.{Rooted}
use Rattle.report.specs.declared.Counted.{Counted}
use Rattle.report.specs.Counted.{counted, reds_in, overs_in, Counts}
use Rattle.report.specs.Report.{figure_at}
use Rattle.report.proofs.Counting.{counted_eq}

module _ {p : List ℕ} {h : Header} (R : Rooted p h) where
  root_fit : Fit R.standing.tree
  root_fit =
      let S = R.standing in
      let w = R.weight_is in
      figures_fit S.tree (rw w at S.fine.chromatic) (omega (arith, S.fine.low)) S.fine.few

  module _ {reds heavy : Counted} (A : Counts (λ w t. reds_in h.nodes 1 t) p h.root h.nodes (allowance p) reds) (B : Counts (overs_in h.nodes) p h.root h.nodes (allowance p) heavy) where
    reds_are : reds ≡ counted (size R.standing.tree) (conflicts R.standing.tree) (red_distance (size R.standing.tree) R.standing.tree)
    unfolding reds_in if_red
    reds_are = A R.standing ∙ rw R.nodes_are (counted_eq refl (omega arith) (omega arith))

    heavy_are : heavy ≡ counted (size R.standing.tree) (excess_weight R.standing.tree) (over_distance (size R.standing.tree) R.standing.tree)
    unfolding overs_in
    heavy_are = B R.standing ∙ rw (R.nodes_are, R.weight_is) (counted_eq refl (omega arith) (omega arith))

    pub root_bound_fits : BoundFits h.nodes heavy.distance reds.number reds.distance
    root_bound_fits = rw (R.nodes_are, reds_are, heavy_are) root_fit.way_fits

    -- N again, as the walk counted it
    pub counted_nodes : heavy.nodes ≡ h.nodes
    counted_nodes = rw (heavy_are, R.nodes_are)

    -- the seven numbers
    pub root_report : {n b : ℕ} → n ≡ h.nodes → b ≡ (3 * h.nodes + 1) * heavy.distance + 2 * h.nodes * reds.number + reds.distance
        → record { nodes = n; level = h.level; excess_weight = heavy.number; conflicts = reds.number; over_distance = heavy.distance; red_distance = reds.distance; bound = b }
        ≡ report (state_of p).top
    unfolding report bound
    root_report d e = rw (d, e, R.top_is, R.nodes_are, R.level_is, reds_are, heavy_are)

-- An index that is 0 or past the last number names no number.
pub figure_other : (i : ℕ) (f : Figures) → (i ≡ 0) ⊎ (length (figures f) < i) → figure_at i f ≡ 0
unfolding figure_at
figure_other zero f h = refl
figure_other (suc i) f (inl e) = absurd (omega arith)
figure_other (suc i) f (inr h) = get_or-eq_default (figures f) 0 {n = i} (omega arith)

-- the same by the indices that the code asks for, one after the other
past : {m i : ℕ} → m ≤ i → i ≢ m → suc m ≤ i
past h n = omega arith

pub figure_none : (i : ℕ) (f : Figures) → i ≢ 1 → i ≢ 2 → i ≢ 3 → i ≢ 4 → i ≢ 5 → i ≢ 6 → i ≢ 7 → 0 ≡ figure_at i f
unfolding figures
figure_none zero f a b c d e g h = sym (figure_other 0 f (inl refl))
figure_none (suc i) f a b c d e g h = sym (figure_other (suc i) f (inr (past (past (past (past (past (past (past (zero-lt-suc i) a) b) c) d) e) g) h)))
