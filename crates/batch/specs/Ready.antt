-- What a call knows before its commands run, for this crate's private functions: nothing refuses it. This page serves RULES 8.
use Rattle.std.specs.Prelude.{◌≡◌, true, List, length, ℕ, ◌*◌, ◌≤◌}
use Rattle.tree.specs.State.{Sound}
use Rattle.format.specs.declared.Header.{Header}
use Rattle.format.specs.Words.{length_good}
use Rattle.format.specs.Audit.{rules_hold, state_of}
use Rattle.format.specs.Shows.{Shows}
use Rattle.encoding.specs.declared.Command.{Command}
use Rattle.encoding.specs.Batch.{commands, read_batch}

-- The batch is good and its commands are cs; each has its two answer words; the pool passes the audit, and under the header h it shows
-- a sound State.
pub record Ready (p : List ℕ) (h : Header) (bytes out : List ℕ) : Type 0 where
  pub cs : List Command
  pub read : read_batch bytes ≡ commands cs
  pub enough : 2 * length cs ≤ length out
  pub length_good_holds : length_good p ≡ true
  pub rules_hold_holds : rules_hold p ≡ true
  pub sound : Sound (state_of p)
  pub shows : Shows h p (state_of p)
