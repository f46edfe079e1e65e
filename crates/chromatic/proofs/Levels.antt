-- 02 (v) as a host sees it: "Keep L in the fourth header word, true after every prepare, insert, delete, step, settle and read back." Of a pool
-- for which the exported audit gives 0, number 2 of the exported report is the fourth header word (`level_returned`), and each leaf's sum of
-- weights is that number (`leaf_sums_returned`). The fourth word is L of the tree that the words show after each exported call that writes a
-- pool: after prepare (`level_after_prepare`; it is 0 then, `prepared_level`), after a load that answers 0 (`level_after_load`), and, from a
-- pool for which the audit gives 0, after batch, with whatever commands, may send and clear notice (`level_after_batch`, `level_after_send`,
-- `level_after_clear`). Over whole sequences of calls: crate demands' Levels.antt. A pool of before: format's FourthWord.antt.
-- Why: each of these leaves words that show a sound State, whose header has L. Assumes nothing.
use mathlib.Core.Path.{◌≡◌, refl, sym, ap, ◌∙◌}
use mathlib.Core.Bool.{true}
use mathlib.Core.List.{List, Memᴰ}
use lib.ListN.{get_or}
use Prim.Native.Nat.{ℕ}
use Rattle.tree.specs.declared.Answer.TheVariants.{Done}
use Rattle.tree.specs.Tree.{Tree, sums_from}
use Rattle.tree.specs.State.{State, Top, empty, full, level_top, Sound, prepared, report, figures}
use Rattle.format.specs.Words.{header_of, length_good}
use Rattle.format.specs.Shows.{PoolShows}
use Rattle.format.specs.Audit.{state_of, audit_code}
use Rattle.format.proofs.Shown.{shows_level, shows_words}
use Rattle.format.proofs.Rules.{show_rules}
use Rattle.format.proofs.AuditCases.{Words32, code_kept}
use Rattle.format.proofs.FourthWord.{level_word, level_of_each_leaf}
use Rattle.report.specs.Report.{figure_at}
use Rattle.pool.specs.Results.{prepared_words}
use Rattle.pool.proofs.Prepares.{prepared_shows}
use Rattle.encoding.specs.Numbers.{Bytes}
use Rattle.encoding.specs.Batch.{Call, called, refused, batch}
use Rattle.encoding.proofs.Endings.{Ending, length_refused, bad_command, few_answers, rules_refused, ran, ending}
use Rattle.encoding.proofs.Performs.{run_sound}
use Rattle.commands.proofs.Running.{read_small}
use Rattle.saved.specs.Calls.{load_call}
use Rattle.saved.proofs.Restarts.{load_says}
use Rattle.set.specs.Set.{Passing}
use Rattle.set.specs.Levels.{LevelTrue}
use Rattle.set.proofs.Promises.{audit_passes, passing_words, passing_audited}
use Rattle.ledger.specs.Ledger.{may_send, clear_notice}
use Rattle.ledger.proofs.Sending.{send_passing}
use Rattle.ledger.proofs.Clearing.{clear_passing}
use Rattle.chromatic.specs.Exports.{number_at}
use Rattle.chromatic.proofs.Exports.{number_passed}

shown_level : {q : List ℕ} {S : State} → Sound S → PoolShows q S → LevelTrue q
unfolding header_of
shown_level sound shows = shows_level shows ∙ ap (λ (T : State). level_top T.top) (sym (show_rules sound shows).2)

passing_level : {q : List ℕ} → Passing q → LevelTrue q
passing_level {q} g = level_word q (passing_words g) (passing_audited g)

second_number : (t : Top) → figure_at 2 (report t) ≡ level_top t
unfolding figure_at figures report level_top
second_number empty = refl
second_number (full t) = refl

-- From any words
module _ (p : List ℕ) where
  pub level_after_prepare : length_good p ≡ true → LevelTrue (prepared_words p)
  level_after_prepare long = let s = prepared_shows p long in shown_level s.0 s.1

  pub prepared_level : length_good p ≡ true → get_or (prepared_words p) 3 0 ≡ 0
  unfolding header_of prepared level_top
  prepared_level long = shows_level (prepared_shows p long).1

  pub level_after_load : (bytes : List ℕ) → Bytes bytes → {n : ℕ} → (load_call p bytes).answer ≡ Done n → LevelTrue (load_call p bytes).left
  level_after_load bytes b {n} done = let L = load_says p bytes n b done in shown_level L.stored.sound L.shows

-- From words for which the exported audit gives 0
module _ (p : List ℕ) (words : Words32 p) (passed : audit_code p ≡ 0) where
  pub level_returned : number_at p 2 ≡ get_or p 3 0
  level_returned = number_passed p 2 passed ∙ (second_number (state_of p).top ∙ sym (level_word p words passed))

  pub leaf_sums_returned : (t : Tree) → (state_of p).top ≡ full t → (x : ℕ) → Memᴰ x (sums_from 0 t) → x ≡ number_at p 2
  leaf_sums_returned t e x m = level_of_each_leaf p words passed t e x m ∙ sym level_returned

  pub level_after_batch : (bytes out : List ℕ) → Bytes bytes → LevelTrue (batch p bytes out).pool
  unfolding refused called
  level_after_batch bytes out b = go (ending p bytes out)
    where
      kept : LevelTrue p
      kept = level_word p words passed

      go : {r : Call} → Ending p bytes out r → LevelTrue r.pool
      go (length_refused l) = kept
      go (bad_command l f) = kept
      go (few_answers l f h) = kept
      go (rules_refused l f h r) = kept
      go (ran {cs} l f h r) = let s = run_sound cs (state_of p) (read_small bytes b f) (code_kept p words passed).sound in shown_level s (shows_words s)

  pub level_after_send : (n r l : ℕ) → LevelTrue (may_send p n r l).left
  level_after_send n r l = passing_level (send_passing p n r l words ((audit_passes p words).0 passed))

  pub level_after_clear : (n : ℕ) → LevelTrue (clear_notice p n).left
  level_after_clear n = passing_level (clear_passing p n words ((audit_passes p words).0 passed))
