-- 02 (v) over whole sequences: "Keep L in the fourth header word, true after every prepare, insert, delete, step, settle and read back." From a
-- pool that passes the audit, after any calls in any order, refused ones among them (batches, whose commands insert, delete a key or a span, step
-- and settle, restarts, may send and clearing), the fourth word is L of the tree that the words show (`level_after_calls`), each leaf's sum of
-- weights is that word (`leaf_sums_after_calls`), and it is the report's second number (`level_reported_after_calls`). It is at most 255, as 02 (viii)
-- has it: "255 remains enough for L" (`level_low_after_calls`; that no tree gets stuck there: StepsLeft.antt, `lighten_answers`). A pool that is
-- prepared passes the audit (set's Promises.antt: `prepare_passing`).
-- Why: such a pool passes the audit after every call (`calls_passing`), and the audit takes no other word there. Assumes nothing.
use mathlib.Core.Path.{◌≡◌}
use mathlib.Core.List.{List, Memᴰ}
use lib.ListN.{get_or}
use Prim.Native.Nat.{ℕ, ◌≤◌}
use Rattle.tree.specs.Codes.{most_level}
use Rattle.tree.specs.Tree.{Tree, sums_from}
use Rattle.tree.specs.State.{full}
use Rattle.format.specs.Words.{header_of}
use Rattle.format.specs.Audit.{state_of}
use Rattle.format.proofs.FourthWord.{level_word, level_of_each_leaf}
use Rattle.report.specs.Report.{report_of}
use Rattle.set.specs.Set.{Passing}
use Rattle.set.specs.Levels.{LevelTrue}
use Rattle.set.proofs.Passing.{passing_words, passing_audited}
use Rattle.set.proofs.Levels.{level_low, level_reported}
use Rattle.demands.specs.Calls.{Entry, Calls}
use Rattle.demands.proofs.Called.{calls_passing}

module _ {p q : List ℕ} {log : List Entry} (g : Passing p) (calls : Calls p log q) where
  pub level_after_calls : LevelTrue q
  level_after_calls = let h = calls_passing g calls in level_word q (passing_words h) (passing_audited h)

  pub level_low_after_calls : get_or q 3 0 ≤ most_level
  level_low_after_calls = level_low (calls_passing g calls)

  pub leaf_sums_after_calls : (t : Tree) → (state_of q).top ≡ full t → (x : ℕ) → Memᴰ x (sums_from 0 t) → x ≡ get_or q 3 0
  leaf_sums_after_calls = let h = calls_passing g calls in level_of_each_leaf q (passing_words h) (passing_audited h)

  pub level_reported_after_calls : (report_of q).figures.level ≡ get_or q 3 0
  unfolding header_of
  level_reported_after_calls = level_reported (calls_passing g calls)
