-- The report's third number, read off the words: the weights of the slots in the tree, each less one, added up over all slots
-- (`excess_summed`); and it is 0 exactly where no edge of the tree that the words show is overweighted (`excess_zero`). Both of a pool that
-- passes the audit, whose report has code 0; of another the number is 0 (Exact.antt: `number_refused`).
-- Why: crate format's Weights.antt adds up over slots what is added up over edges, and crate tree's Excess.antt says of a tree when the sum
-- is 0. Assumes nothing.
use mathlib.Core.Path.{◌≡◌, refl, sym, ◌∙◌}
use mathlib.Core.Logic.{◌↔◌}
use mathlib.Core.List.{List}
use native.Mathlib.Omega.{arith}
use borrow.Author.Tests.{ne_eqb}
use Prim.Native.Nat.{ℕ, pred, ◌+◌, ◌<◌}
use Rattle.tree.specs.Tree.{Tree, leaf, node, level, Chromatic}
use Rattle.tree.specs.Distances.{excess_weight, over_edges}
use Rattle.tree.specs.State.{State, Top, empty, full, Sound, report, figures}
use Rattle.tree.proofs.Totals.{total}
use Rattle.tree.proofs.Excess.{excess_none}
use Rattle.tree.proofs.Demand3.{sound_held}
use Rattle.format.specs.Words.{free_weight}
use Rattle.format.specs.Shows.{PoolShows}
use Rattle.format.proofs.Weights.{weighed, weighed_top, weight_of, weights_added}
use Rattle.report.specs.Report.{report_of, figure_at, excess_word}
use Rattle.report.proofs.Exact.{number_exact}

word_light : (w : ℕ) → w < free_weight → excess_word w ≡ pred w
unfolding excess_word
word_light w h = rw (ne_eqb w free_weight (omega arith), excess_word)

-- no edge of a tree weighs as much as a free slot
tree_excess : (w : ℕ) (t : Tree) → Chromatic w t → w + level t < free_weight → weighed excess_word w t ≡ pred w + excess_weight t
unfolding weighed excess_weight Chromatic level
tree_excess w (leaf s k) c h = omega (arith, word_light w (omega arith))
tree_excess w (node s k wl l wr r) c h =
    omega (arith, word_light w (omega arith), tree_excess wl l c.1 (omega arith), tree_excess wr r c.2 (omega arith))

module _ {p : List ℕ} {S : State} (sound : Sound S) (shows : PoolShows p S) where
  third : figure_at 3 (report_of p).figures ≡ (report S.top).excess_weight
  unfolding figure_at figures
  third = number_exact sound shows 3

  pub excess_summed : figure_at 3 (report_of p).figures ≡ total (weight_of excess_word p) S.slots
  unfolding report weighed_top excess_word
  excess_summed = third ∙ go S.top refl ∙ sym (weights_added excess_word refl sound shows)
    where
      go : (t : Top) → S.top ≡ t → (report S.top).excess_weight ≡ weighed_top excess_word S.top
      go empty e = rw e
      go (full t) e = let H = sound_held S t sound e in rw e (omega (arith, tree_excess 1 t H.proper.chromatic (omega (arith, H.low))))

  pub excess_zero : (figure_at 3 (report_of p).figures ≡ 0) ↔ ((t : Tree) → S.top ≡ full t → over_edges t ≡ 0)
  unfolding report
  excess_zero = (λ z t e. (excess_none t).0 (rw e at (sym third ∙ z)), λ f. third ∙ go S.top refl f)
    where
      go : (t : Top) → S.top ≡ t → ((t : Tree) → S.top ≡ full t → over_edges t ≡ 0) → (report S.top).excess_weight ≡ 0
      go empty e f = rw e
      go (full t) e f = rw e ((excess_none t).1 (f t e))
