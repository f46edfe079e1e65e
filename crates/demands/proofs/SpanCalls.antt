-- A delete of a span anywhere in a call (RULES 18.5): the pool after the call is the one after the same commands with single deletes in its place, of
-- the keys from a to b of the pool that the commands before it left, smallest first (`span_replaced`); and so a call whose bytes are those commands
-- leaves the same words, where there are no more than 256 (`span_batches`).
-- Why: a call leaves the words of the State after its commands, and over States the two are the same (crate encoding). Assumes nothing.
use mathlib.Core.Path.{◌≡◌, ap, sym, ◌∙◌}
use mathlib.Core.List.{List, ◌∷◌, ◌++◌}
use Prim.Native.Nat.{ℕ}
use Rattle.tree.specs.State.{State}
use Rattle.tree.specs.Spans.{keys_from}
use Rattle.format.specs.Words.{words_of}
use Rattle.format.specs.Audit.{state_of}
use Rattle.format.proofs.AuditCases.{Words32}
use Rattle.encoding.specs.declared.Operation.TheVariants.{DeleteSpan}
use Rattle.encoding.specs.declared.Command.{Command}
use Rattle.encoding.specs.Numbers.{Bytes}
use Rattle.encoding.specs.Batch.{command, commands, read_batch, run_all, batch}
use Rattle.encoding.specs.Singly.{deletes}
use Rattle.encoding.proofs.Singly.{span_singly}
use Rattle.demands.specs.Calls.{pool_after}
use Rattle.demands.proofs.Codes.{pool_after_lem, state_before}

module _ (p bytes out : List ℕ) (words : Words32 p) (byte : Bytes bytes) (given : (batch p bytes out).code ≡ 0) (before rest : List Command) (a b : ℕ)
    (read : read_batch bytes ≡ commands (before ++ (command DeleteSpan a b ∷ rest))) where
  -- its keys, in the pool that the commands before it left
  abbrev keys_there : List ℕ
  keys_there = keys_from a b (state_of (pool_after before p))

  pub span_replaced : (batch p bytes out).pool ≡ pool_after (before ++ (deletes keys_there ++ rest)) p
  unfolding pool_after
  span_replaced =
      pool_after_lem p bytes out words byte given read
      ∙ (ap words_of (span_singly before rest a b (state_of p))
      ∙ ap (λ (S : State). words_of (run_all (before ++ (deletes (keys_from a b S) ++ rest)) (state_of p))) (sym (state_before p bytes out words byte given before (command DeleteSpan a b) rest read)))

  pub span_batches : (bytes' out' : List ℕ) → Bytes bytes' → (batch p bytes' out').code ≡ 0 → read_batch bytes' ≡ commands (before ++ (deletes keys_there ++ rest))
      → (batch p bytes' out').pool ≡ (batch p bytes out).pool
  span_batches bytes' out' byte' given' read' = pool_after_lem p bytes' out' words byte' given' read' ∙ sym span_replaced
