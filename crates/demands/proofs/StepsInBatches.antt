-- Demand 3 through batch. Over any number of calls with no update among them, that is no accepted insert or delete command, no delete of a span by
-- which a key went, no yes of may send and no clearing by which a mark went, the accepted steps, that is the step commands answered with code 0 and
-- the steps that settle commands report, are at most the report's seventh number of the first pool (`steps_in_batches`, `steps_at_most`).
-- Why: an accepted step lowers that number, a settle lowers it by its steps or more, and a search, a next key, a count, a refused command or call, a
-- delete of a span or a clearing that finds nothing leaves the pool as it was. Of keys nothing is said here. Assumes nothing.
use mathlib.Core.Path.{◌≡◌, refl, ap}
use mathlib.Core.Logic.{◌≢◌}
use mathlib.Core.Bool.{Bool, true, false}
use mathlib.Core.List.{List, [], ◌∷◌, ◌++◌}
use lib.Dec.{eqb}
use borrow.Author.Tests.{ne_eqb}
use native.Mathlib.Omega.{arith}
use Prim.Native.Nat.{ℕ, ◌+◌, ◌≤◌}
use Rattle.tree.specs.declared.Answer.{Answer}
use Rattle.tree.specs.declared.Answer.TheVariants.{Done, Refused}
use Rattle.tree.specs.Codes.{kind_number, code_of, number_of}
use Rattle.tree.proofs.KindNumbers.{refusal_some}
use Rattle.tree.proofs.Tests.{same_or_not}
use Rattle.tree.specs.State.{State, Sound, Outcome, search, insert, delete, step}
use Rattle.tree.specs.Settle.{settle}
use Rattle.tree.specs.Spans.{next_from, count_span, delete_span}
use Rattle.tree.proofs.Updated.{search_kept, insert_kept, delete_kept}
use Rattle.tree.proofs.StepState.{StepCase, refused as step_refused, taken as step_taken, stepping}
use Rattle.tree.proofs.Demand3.{bound_of, accepted_falls}
use Rattle.tree.proofs.SpanStates.{span_none}
use Rattle.tree.proofs.SettleAnswers.{settle_state_falls}
use Rattle.encoding.specs.declared.Operation.{Operation}
use Rattle.encoding.specs.declared.Operation.TheVariants.{Search, Insert, Delete, Step, Settle, AtOrAbove, Count, DeleteSpan}
use Rattle.encoding.specs.declared.Command.{Command}
use Rattle.encoding.specs.Numbers.{Bytes}
use Rattle.format.specs.Audit.{state_of}
use Rattle.encoding.specs.Batch.{operation, perform, run_all, batch}
use Rattle.encoding.proofs.Performs.{AllSmall, perform_sound}
use Rattle.set.specs.Set.{Passing}
use Rattle.set.specs.Balance.{bound_number}
use Rattle.set.proofs.Passing.{passing_state}
use Rattle.set.proofs.Balancing.{bound_shown}
use Rattle.set.proofs.Promises.{Words32, passing_words}
use Rattle.ledger.specs.Ledger.{may_send, clear_notice}
use Rattle.ledger.specs.Sequences.{send_call, clear_call}
use Rattle.ledger.proofs.Sending.{send_refused}
use Rattle.ledger.proofs.Clearing.{clear_refused, clear_none}
use Rattle.demands.specs.Calls.{Entry, of_ledger, log_of, Calls, no_call, then_call, then_restart, then_send, then_clear, is_of, steps_of, steps_in, NoUpdate, NoUpdates}
use Rattle.demands.proofs.Runs.{entry, entries_of}
use Rattle.demands.proofs.Called.{Result, call_kept, call_did, call_result, calls_passing}
use Rattle.demands.proofs.Restarting.{restart_bound}

-- The steps of an entry: of a step at most one, and none if it is refused; of a settle its number.
module _ (c : Command) (a : Answer) where
  no_settle : c.operation ≡ Step → is_of Settle c ≡ false
  unfolding is_of
  no_settle f = rw f

  steps_one : c.operation ≡ Step → steps_of (entry c a) ≤ 1
  unfolding steps_of is_of
  steps_one f = go (eqb (code_of a) 0) refl
    where
      go : (b : Bool) → eqb (code_of a) 0 ≡ b → steps_of (entry c a) ≤ 1
      go true h = rw (f, steps_of, h) (omega arith)
      go false h = rw (f, steps_of, h, no_settle f) (omega arith)

  steps_refused : c.operation ≡ Step → code_of a ≢ 0 → steps_of (entry c a) ≡ 0
  unfolding steps_of is_of
  steps_refused f n = rw (f, steps_of, ne_eqb (code_of a) 0 n, no_settle f)

  steps_settle : c.operation ≡ Settle → steps_of (entry c a) ≡ number_of a
  unfolding steps_of is_of
  steps_settle f = rw f

-- One command, of a sound State: its steps lower the bound.
module _ (c : Command) (S : State) (sound : Sound S) where
  abbrev Falls : Outcome → Type 0
  Falls o = steps_of (entry c o.answer) + bound_of o.after ≤ bound_of S

  -- a command that takes no step and leaves the State as it was
  falls_kept : (o : Outcome) → steps_of (entry c o.answer) ≡ 0 → o.after ≡ S → Falls o
  falls_kept o f k = let b : bound_of o.after ≡ bound_of S = ap bound_of k in omega (arith, f)

  step_falls : c.operation ≡ Step → {o : Outcome} → StepCase c.first c.second S o → step c.first c.second S ≡ o → Falls o
  step_falls op (step_refused {f} r) e = omega (arith, steps_refused c (Refused f) op (refusal_some f))
  step_falls op (step_taken {t} {k} a i n b) e =
      let f = accepted_falls c.first c.second (kind_number k) S sound (ap (λ (o : Outcome). o.answer) e) in
      let same = ap (λ (o : Outcome). bound_of o.after) e in
      omega (arith, steps_one c (Done (kind_number k)) op)

  perform_falls : NoUpdate (entry c (perform c S).answer) → Falls (perform c S)
  unfolding perform operation next_from count_span delete_span steps_of is_of NoUpdate
  perform_falls u = go c.operation refl u
    where
      go : (o : Operation) → c.operation ≡ o → NoUpdate (entry c (operation o c.first c.second S).answer) → Falls (operation o c.first c.second S)
      go Search e u = falls_kept (search c.first S) (rw e) (search_kept c.first S sound)
      go Insert e u = falls_kept (insert c.first S) (rw e) (insert_kept c.first S sound (λ z. (u (omega arith)).0 e))
      go Delete e u = falls_kept (delete c.first S) (rw e) (delete_kept c.first S sound (λ z. (u (omega arith)).1 e))
      go Step e u = step_falls e (stepping c.first c.second S) refl
      go Settle e u = omega (arith, steps_settle c (settle c.first S).answer e, settle_state_falls S c.first sound)
      go AtOrAbove e u = falls_kept (next_from c.first S) (rw e) refl
      go Count e u = falls_kept (count_span c.first c.second S) (rw e) refl
      go DeleteSpan e u = falls_kept (delete_span c.first c.second S) (rw e) (span_none c.first c.second S ((u refl).2 e))

-- All commands of a call, and any number of calls.
pub run_falls : (cs : List Command) (S : State) → AllSmall cs → Sound S → NoUpdates (entries_of cs S) → steps_in (entries_of cs S) + bound_of (run_all cs S) ≤ bound_of S
unfolding run_all entries_of steps_in NoUpdates AllSmall
run_falls [] S h g u = omega arith
run_falls (c ∷ cs) S h g u =
    omega (arith, perform_falls c S g u.0, run_falls cs (perform c S).after h.1 (perform_sound c S h.0 g) u.1)

call_falls : {p : List ℕ} → Passing p → (bytes out : List ℕ) → Bytes bytes → NoUpdates (log_of p bytes out)
    → steps_in (log_of p bytes out) + bound_number (batch p bytes out).pool ≤ bound_number p
unfolding steps_in
call_falls {p} g bytes out b u = go (call_result g bytes out b)
  where
    go : Result p bytes out → steps_in (log_of p bytes out) + bound_number (batch p bytes out).pool ≤ bound_number p
    go (call_kept n q l) = rw (q, l) (omega arith)
    go (call_did {cs} z f r) =
        let before = bound_shown (passing_state g).0 (passing_state g).1 in
        let after = bound_shown r.sound_after r.shows_after in
        rw r.log_is (omega (arith, run_falls cs (state_of p) r.small r.sound (rw r.log_is at u)))

steps_append : (l m : List Entry) → steps_in (l ++ m) ≡ steps_in l + steps_in m
unfolding steps_in
steps_append [] m = omega arith
steps_append (e ∷ l) m = omega (arith, steps_append l m)

no_updates_append : (l m : List Entry) → NoUpdates (l ++ m) → NoUpdates l × NoUpdates m
unfolding NoUpdates
no_updates_append [] m u = (tt, u)
no_updates_append (e ∷ l) m u = let r = no_updates_append l m u.1 in ((u.0, r.0), r.1)

-- A call of the send limit that is no update leaves the pool as it was.
send_falls : {p : List ℕ} → Passing p → (n r l : ℕ) → NoUpdate (of_ledger (send_call p n r l)) → bound_number (may_send p n r l).left ≡ bound_number p
unfolding NoUpdate
send_falls {p} g n r l u = ap bound_number (send_refused p n r l (passing_words g) u).1

clear_falls : {p : List ℕ} → Passing p → (n : ℕ) → NoUpdate (of_ledger (clear_call p n)) → bound_number (clear_notice p n).left ≡ bound_number p
unfolding NoUpdate
clear_falls {p} g n u = ap bound_number (clear_none p n words (same_or_not (code_of (clear_notice p n).answer) 0 u (λ d. (clear_refused p n words d).0)))
  where
    words : Words32 p
    words = passing_words g

pub steps_in_batches : {p q : List ℕ} {log : List Entry} → Passing p → Calls p log q → NoUpdates log → steps_in log + bound_number q ≤ bound_number p
unfolding steps_in steps_of NoUpdates
steps_in_batches g no_call u = omega arith
steps_in_batches g (then_call {log} {q} calls bytes out b) u =
    let s = no_updates_append log (log_of q bytes out) u in
    omega (arith, steps_append log (log_of q bytes out), steps_in_batches g calls s.0, call_falls (calls_passing g calls) bytes out b s.1)
steps_in_batches g (then_restart calls R) u = omega (arith, restart_bound (calls_passing g calls) R, steps_in_batches g calls u)
steps_in_batches g (then_send {log} {q} calls n r l) u =
    let s = no_updates_append log (of_ledger (send_call q n r l) ∷ []) u in
    omega (
      arith,
      steps_append log (of_ledger (send_call q n r l) ∷ []),
      steps_in_batches g calls s.0,
      send_falls (calls_passing g calls) n r l s.1.0,
    )
steps_in_batches g (then_clear {log} {q} calls n) u =
    let s = no_updates_append log (of_ledger (clear_call q n) ∷ []) u in
    omega (
      arith,
      steps_append log (of_ledger (clear_call q n) ∷ []),
      steps_in_batches g calls s.0,
      clear_falls (calls_passing g calls) n s.1.0,
    )

pub steps_at_most : {p q : List ℕ} {log : List Entry} → Passing p → Calls p log q → NoUpdates log → steps_in log ≤ bound_number p
steps_at_most g calls u = omega (arith, steps_in_batches g calls u)
