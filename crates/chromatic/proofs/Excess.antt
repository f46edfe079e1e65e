-- 02 (iii) as a host sees it, of a pool for which the exported audit gives 0: number 3 of the exported report is the sum of weight less one
-- over the slots in the tree, read off the words (`excess_returned`), and 0 exactly where no edge of the tree that they show is overweighted
-- (`excess_none_returned`), as the number was that it replaces; it fits 64 bits (report's Exact.antt: `report_fits_64`). One leaf of weight 9:
-- the audit gives 0, the report 8 (`nine_returned`). Of a refused pool the number is 0 (Exports.antt: `number_none`). Assumes nothing.
use mathlib.Core.Path.{◌≡◌, ap, ◌∙◌}
use mathlib.Core.Logic.{◌↔◌}
use mathlib.Core.List.{List}
use lib.ListN.{get_or}
use Prim.Native.Nat.{ℕ, suc}
use native.Mathlib.Omega.{arith}
use Rattle.tree.specs.Tree.{Tree}
use Rattle.tree.specs.Distances.{over_edges}
use Rattle.tree.specs.State.{State, full, nodes, GoodTop, Sound, report, figures}
use Rattle.tree.proofs.Totals.{total}
use Rattle.tree.proofs.Excess.{nine, nine_figures, nine_reported, nine_good}
use Rattle.format.specs.Words.{slots_in, words_of}
use Rattle.format.specs.Audit.{state_of, audited_code, audit_code}
use Rattle.format.proofs.Shown.{shows_words, shows_length_good}
use Rattle.format.proofs.Weights.{weight_of}
use Rattle.format.proofs.AuditCases.{Words32, code_kept, audited_passed}
use Rattle.report.specs.Report.{figure_at, excess_word}
use Rattle.report.proofs.Exact.{number_exact}
use Rattle.report.proofs.Summed.{excess_summed, excess_zero}
use Rattle.saved.specs.Saved.{renumbered_top, with_rest}
use Rattle.saved.proofs.Alike.{renumbered_like}
use Rattle.saved.proofs.Figures.{alike_report}
use Rattle.saved.proofs.States.{rest_sound}
use Rattle.chromatic.specs.Exports.{number_at}

module _ (p : List ℕ) (words : Words32 p) (passed : audit_code p ≡ 0) where
  pub excess_returned : number_at p 3 ≡ total (weight_of excess_word p) (slots_in p)
  unfolding number_at
  excess_returned =
      let k = code_kept p words passed in
      rw (shows_length_good k.sound k.shows).1 (excess_summed k.sound k.shows)

  pub excess_none_returned : (number_at p 3 ≡ 0) ↔ ((t : Tree) → (state_of p).top ≡ full t → over_edges t ≡ 0)
  unfolding number_at
  excess_none_returned = let k = code_kept p words passed in excess_zero k.sound k.shows

-- a pool of 513 slots with that leaf, as load leaves it
abbrev pub nine_state : State
nine_state = with_rest 513 (renumbered_top (full nine))

nine_figure : (i : ℕ) → figure_at (suc i) (report (full nine)) ≡ get_or nine_figures i 0
unfolding figure_at
nine_figure i = rw nine_reported

nine_sound : Sound nine_state
unfolding nodes GoodTop figure_at figures report
nine_sound = rest_sound 513 (full nine) (omega arith) (omega arith) (omega (arith, nine_figure 0)) nine_good

pub nine_returned : (audit_code (words_of nine_state) ≡ 0) × (number_at (words_of nine_state) 3 ≡ 8)
unfolding number_at with_rest audit_code
nine_returned =
    let shows = shows_words nine_sound in
    let same : report nine_state.top ≡ report (full nine) = alike_report (renumbered_like (full nine)) in
    (ap audited_code (audited_passed _ nine_sound shows), number_exact nine_sound shows 3 ∙ ap (figure_at 3) same ∙ nine_figure 2)
