-- What a batch call leaves of a pool that passes the audit: all as it was and nothing in the log, or what its commands leave of the
-- State, with their entries in the log (`call_result`). Either way the pool passes the audit, and so it does after any number of calls of
-- every sort (`calls_passing`). Behind Ends.antt, History.antt and StepsInBatches.antt. Assumes nothing.
use mathlib.Core.Path.{◌≡◌, refl, ap, sym, ◌∙◌}
use mathlib.Core.Logic.{◌≢◌}
use mathlib.Core.List.{List, []}
use native.Mathlib.Omega.{arith}
use Prim.Native.Nat.{ℕ}
use Rattle.tree.specs.State.{Sound}
use Rattle.encoding.specs.declared.Command.{Command}
use Rattle.format.specs.Shows.{PoolShows}
use Rattle.format.specs.Audit.{state_of}
use Rattle.encoding.specs.Batch.{commands, read_batch, run_all, Call, called, refused, batch}
use Rattle.format.proofs.Shown.{shows_words}
use Rattle.set.specs.Set.{Passing}
use Rattle.set.proofs.Passing.{passing, passing_state, passing_words}
use Rattle.ledger.proofs.Sending.{send_passing}
use Rattle.ledger.proofs.Clearing.{clear_passing}
use Rattle.encoding.specs.Numbers.{Bytes}
use Rattle.encoding.proofs.Endings.{Ending, length_refused, bad_command, few_answers, rules_refused, ran, ending}
use Rattle.encoding.proofs.Performs.{AllSmall, run_sound}
use Rattle.demands.specs.Calls.{Entry, log_of, Calls, no_call, then_call, then_restart, then_send, then_clear}
use Rattle.commands.proofs.Running.{read_small}
use Rattle.demands.proofs.Runs.{entries_of, log_none, log_ran}
use Rattle.demands.proofs.Restarting.{restart_passing}

-- the commands cs ran
pub record Ran (p bytes out : List ℕ) (cs : List Command) : Type 0 where
  pub call_is : batch p bytes out ≡ called cs p out
  pub small : AllSmall cs
  pub sound : Sound (state_of p)
  pub sound_after : Sound (run_all cs (state_of p))
  pub shows_after : PoolShows (batch p bytes out).pool (run_all cs (state_of p))
  pub log_is : log_of p bytes out ≡ entries_of cs (state_of p)
  pub passing : Passing (batch p bytes out).pool

pub data Result (p bytes out : List ℕ) : Type 0 where
  call_kept : (batch p bytes out).code ≢ 0 → (batch p bytes out).pool ≡ p → log_of p bytes out ≡ [] → Result p bytes out
  call_did : {cs : List Command} → (batch p bytes out).code ≡ 0 → read_batch bytes ≡ commands cs → Ran p bytes out cs → Result p bytes out

module _ {p : List ℕ} (g : Passing p) (bytes out : List ℕ) (b : Bytes bytes) where
  pub call_result : Result p bytes out
  unfolding refused called
  call_result = go (ending p bytes out) refl
    where
      keep : {n : ℕ} → (batch p bytes out).code ≡ n → n ≢ 0 → (batch p bytes out).pool ≡ p → Result p bytes out
      keep e d q = let c : (batch p bytes out).code ≢ 0 = λ z. d (sym e ∙ z) in call_kept c q (log_none p bytes out c)

      go : {r : Call} → Ending p bytes out r → batch p bytes out ≡ r → Result p bytes out
      go (length_refused l) e = keep (ap (λ (r : Call). r.code) e) (omega arith) (ap (λ (r : Call). r.pool) e)
      go (bad_command l f) e = keep (ap (λ (r : Call). r.code) e) (omega arith) (ap (λ (r : Call). r.pool) e)
      go (few_answers l f h) e = keep (ap (λ (r : Call). r.code) e) (omega arith) (ap (λ (r : Call). r.pool) e)
      go (rules_refused l f h r) e = keep (ap (λ (r : Call). r.code) e) (omega arith) (ap (λ (r : Call). r.pool) e)
      go (ran {cs} l f h r) e =
          let S = passing_state g in
          let small = read_small bytes b f in
          let sound = run_sound cs (state_of p) small S.0 in
          let shows : PoolShows (batch p bytes out).pool (run_all cs (state_of p)) = rw e (shows_words sound) in
          call_did (ap (λ (r : Call). r.code) e) f (record {
            call_is = e;
            small = small;
            sound = S.0;
            sound_after = sound;
            shows_after = shows;
            log_is = log_ran p bytes out f e;
            passing = passing sound shows;
          })

  -- a call that is not refused, by the commands that were read
  pub call_ran : (batch p bytes out).code ≡ 0 → {cs : List Command} → read_batch bytes ≡ commands cs → Ran p bytes out cs
  call_ran given {cs} read = go call_result
    where
      go : Result p bytes out → Ran p bytes out cs
      go (call_kept n q l) = absurd (n given)
      go (call_did {cs = ds} z f r) = let same : ds ≡ cs = cc in rw same at r

  pub call_passing : Passing (batch p bytes out).pool
  call_passing = go call_result
    where
      go : Result p bytes out → Passing (batch p bytes out).pool
      go (call_kept n q l) = rw q g
      go (call_did z f r) = r.passing

pub calls_passing : {p q : List ℕ} {log : List Entry} → Passing p → Calls p log q → Passing q
calls_passing g no_call = g
calls_passing g (then_call before bytes out b) = call_passing (calls_passing g before) bytes out b
calls_passing g (then_restart before R) = restart_passing (calls_passing g before) R
calls_passing g (then_send {q = q} before n r l) = let h = calls_passing g before in send_passing q n r l (passing_words h) h
calls_passing g (then_clear {q = q} before n) = let h = calls_passing g before in clear_passing q n (passing_words h) h
