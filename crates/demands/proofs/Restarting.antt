-- A restart, over the calls themselves: what is saved and loaded again passes the audit (`restart_passing`), has the same keys
-- (`restart_keys`), so that search finds the same ones (`restart_search`), and the same report, the bound with it (`restart_report`). It shows
-- the State renumbered (`restarted`). Assumes nothing.
use mathlib.Core.Path.{◌≡◌, ap, sym, ◌∙◌}
use mathlib.Core.Logic.{◌↔◌}
use mathlib.Core.List.{List}
use Prim.Native.Nat.{ℕ}
use Rattle.tree.specs.Codes.{code_of}
use Rattle.tree.specs.Tree.{count_in}
use Rattle.tree.specs.State.{Sound}
use Rattle.format.specs.Words.{words_of}
use Rattle.format.specs.Shows.{PoolShows}
use Rattle.format.specs.Audit.{state_of}
use Rattle.format.proofs.Shown.{shows_words}
use Rattle.report.specs.Report.{Reported}
use Rattle.report.specs.Report.{reported, report_of}
use Rattle.report.proofs.Exact.{report_exact}
use Rattle.updates.specs.Updating.{search_answer}
use Rattle.saved.specs.Saved.{renumbered_state}
use Rattle.saved.proofs.Alike.{top_keys}
use Rattle.saved.proofs.Figures.{alike_report}
use Rattle.saved.proofs.Saves.{renumbered_sound, renumbered_keeps}
use Rattle.saved.proofs.Restarts.{save_says, load_back}
use Rattle.set.specs.Set.{Passing, member}
use Rattle.set.specs.Balance.{bound_number}
use Rattle.set.proofs.Members.{member_shown}
use Rattle.set.proofs.Passing.{passing, passing_state}
use Rattle.set.proofs.Promises.{search_codes}
use Rattle.demands.specs.Calls.{Restart}

module _ {q r : List ℕ} (g : Passing q) (R : Restart q r) where
  before : Sound (state_of q)
  before = (passing_state g).0

  words_are : r ≡ words_of (renumbered_state (state_of q))
  words_are =
      let bytes_are = (save_says q R.out R.count R.is_saved).bytes_are in
      R.leaves ∙ rw bytes_are (load_back before R.words (rw bytes_are at R.is_loaded))

  -- "the same keys, routers, shape and weights": the State renumbered
  pub restarted : Sound (renumbered_state (state_of q)) × PoolShows r (renumbered_state (state_of q))
  restarted = let sound = renumbered_sound before in (sound, rw words_are (shows_words sound))

  pub restart_passing : Passing r
  restart_passing = passing restarted.0 restarted.1

  pub restart_keys : (x : ℕ) → member x r ≡ member x q
  restart_keys x =
      member_shown restarted.0 restarted.1 x
      ∙ (ap (count_in x) (top_keys (renumbered_keeps (state_of q))) ∙ sym (member_shown before (passing_state g).1 x))

  -- the code, 0, and all seven numbers
  pub restart_report : report_of r ≡ report_of q
  restart_report =
      report_exact restarted.0 restarted.1
      ∙ (ap (reported 0) (alike_report (renumbered_keeps (state_of q))) ∙ sym (report_exact before (passing_state g).1))

  pub restart_bound : bound_number r ≡ bound_number q
  unfolding bound_number
  restart_bound = ap (λ (x : Reported). x.figures.bound) restart_report

  -- The keys that search finds before save are those that it finds after load.
  pub restart_search : (x : ℕ) → (code_of (search_answer r x) ≡ 0) ↔ (code_of (search_answer q x) ≡ 0)
  restart_search x =
      let now = (search_codes restart_passing x).done_when in
      let then = (search_codes g x).done_when in
      let same = restart_keys x in
      (λ z. then.1 (sym same ∙ now.0 z), λ z. now.1 (same ∙ then.0 z))
