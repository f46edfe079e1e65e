-- RULES 4.13 as a host sees it. On a pool for which the exported audit gives 0, of a batch that reads as one command, a step of kind 4 or 5, and
-- has room for its answer: where the answer's code word is 0 after the call, the call changed the six words of the pool that `six_words` names, and
-- no other (`batch_double_left`, `batch_double_right`). So does a batch of one settle with budget 1 where such a step is the lowest allowed one
-- (`batch_settles_double_left`, `batch_settles_double_right`). Of a step amid other commands: crate kinds' SixShown.antt.
-- Why: the call leaves the words of the State after that step. Assumes nothing.
use mathlib.Core.Path.{◌≡◌}
use mathlib.Core.List.{List, [], ◌∷◌}
use mathlib.Core.Option.{some}
use lib.ListN.{length, get_or}
use Prim.Native.Nat.{ℕ, ◌≤◌}
use Rattle.tree.specs.declared.Kind.TheVariants.{DoubleLeft, DoubleRight}
use Rattle.tree.specs.Codes.{kind_number}
use Rattle.tree.specs.Tree.{Tree}
use Rattle.tree.specs.State.{full}
use Rattle.tree.specs.Settle.{lowest_step}
use Rattle.tree.proofs.Settling.{settle_sound_state}
use Rattle.tree.proofs.StepState.{step_sound_state}
use Rattle.format.specs.declared.Part.TheVariants.{Left, Right}
use Rattle.format.specs.Audit.{state_of, audit_code}
use Rattle.format.proofs.Shown.{shows_words}
use Rattle.format.proofs.AuditCases.{Words32, code_kept}
use Rattle.encoding.specs.declared.Operation.TheVariants.{Step, Settle}
use Rattle.encoding.specs.Batch.{command, commands, read_batch, operation, perform, answers_of, run_all, answer_words, filled, called, batch}
use Rattle.encoding.proofs.Endings.{ran_ends}
use Rattle.kinds.specs.Doubles.{six_words, ChangedAt}
use Rattle.kinds.proofs.Sides.{Side, left, right, double, near, away}
use Rattle.kinds.proofs.SixShown.{double_done, double_settled}

module _ (p : List ℕ) (words : Words32 p) (passed : audit_code p ≡ 0) (bytes out : List ℕ) (room : 2 ≤ length out) (s : ℕ) where
  batch_double : (d : Side) → read_batch bytes ≡ commands (command Step s (kind_number (double d)) ∷ []) → get_or (batch p bytes out).answers 0 0 ≡ 0
      → ChangedAt p (batch p bytes out).pool (six_words (near d) (away d) p s)
  unfolding called run_all answers_of perform operation filled answer_words
  batch_double d reads done =
      let n = kind_number (double d) in
      let k = code_kept p words passed in
      let ran = ran_ends p bytes out k.length_good_holds reads room k.rules_hold_holds in
      rw ran (double_done k.sound k.shows d s (rw ran at done) (shows_words (step_sound_state s n (state_of p) k.sound)))

  pub batch_double_left : read_batch bytes ≡ commands (command Step s (kind_number DoubleLeft) ∷ []) → get_or (batch p bytes out).answers 0 0 ≡ 0
      → ChangedAt p (batch p bytes out).pool (six_words Left Right p s)
  batch_double_left = batch_double left

  pub batch_double_right : read_batch bytes ≡ commands (command Step s (kind_number DoubleRight) ∷ []) → get_or (batch p bytes out).answers 0 0 ≡ 0
      → ChangedAt p (batch p bytes out).pool (six_words Right Left p s)
  batch_double_right = batch_double right

  module _ (t : Tree) (e : (state_of p).top ≡ full t) (reads : read_batch bytes ≡ commands (command Settle 1 0 ∷ [])) where
    batch_settles_double : (d : Side) → lowest_step (state_of p).slots 1 t ≡ some (s, double d) → ChangedAt p (batch p bytes out).pool (six_words (near d) (away d) p s)
    unfolding called run_all perform operation
    batch_settles_double d f =
        let k = code_kept p words passed in
        rw (ran_ends p bytes out k.length_good_holds reads room k.rules_hold_holds)
        (double_settled k.sound k.shows t e d s f (shows_words (settle_sound_state (state_of p) 1 k.sound)))

    pub batch_settles_double_left : lowest_step (state_of p).slots 1 t ≡ some (s, DoubleLeft) → ChangedAt p (batch p bytes out).pool (six_words Left Right p s)
    batch_settles_double_left = batch_settles_double left

    pub batch_settles_double_right : lowest_step (state_of p).slots 1 t ≡ some (s, DoubleRight) → ChangedAt p (batch p bytes out).pool (six_words Right Left p s)
    batch_settles_double_right = batch_settles_double right
